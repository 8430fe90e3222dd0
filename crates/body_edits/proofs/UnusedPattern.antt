-- An operation that nothing uses, by ids and by positions, and once it is gone.
use Rattle.std.proofs.Common.{◌≡◌, ℕ, Bool, true, false, cond, not, ◌&&◌, ◌||◌, nat_eq, List, [], ◌∷◌, map, Option, Some, None, slice_get, refl, sym, ap, ap₂, ◌∙◌, option_and_then}
use Rattle.std.specs.Prelude.{All, Contains, is_some, IsTrue, ◌↔◌, remove}
use Rattle.std.specs.List.{list_any}
use Rattle.std.proofs.lemmas.List.Elements.{All-nil, All-cons, All-head, All-tail}
use Rattle.wiring.proofs.Members.{map_same}
use Rattle.op_checks.proofs.Widths.{neither}
use Rattle.hw_model.specs.Design.{Op}
use Rattle.hw_model.specs.Design.Ref.{undefined}
use Rattle.edit_laws.specs.Laws.{without, erase_op}
use Rattle.hw_model.specs.KindViews.{kind_of}
use Rattle.ir_store.specs.declared.body.Body.{Body}
use Rattle.ir_store.specs.declared.body.Op.{Op as ReadOp}
use Rattle.ir_store.specs.declared.operation.OpId.{OpId}
use Rattle.ir_store.specs.declared.operation.Value.{Value}
use Rattle.ir_store.specs.declared.operation.Value.TheVariants.{Port, Result, Undefined}
use Rattle.ir_store.specs.Bodies.{ids_of, ops_of, read_op}
use Rattle.ir_store.specs.BodyOps.{BodyOp, ids_in, taken_out, op_at, is_of, IsUnused}
use Rattle.ir_store.specs.Live.{IsLive, HasLive, AreLive}
use Rattle.ir_store.specs.Numbered.{position_of, ref_by, op_by, ops_by_position}
use Rattle.ir_store.specs.Positions.{retarget, pulled_ref, without_op}
use Rattle.ir_store.proofs.Numbering.{same-ref_by, numbered-taken_out}
use Rattle.fold_laws.specs.Edits.Edit.{erased}
use Rattle.fold_laws.specs.Unused.{is_pure, is_result_of, is_used, fold_unused}
use Rattle.body_edits.specs.Folded.{IsFolded}
use Rattle.body_edits.specs.Views.{HasOp, body_ops, position_in, op_seen}
use Rattle.body_edits.proofs.Erasing.{stand_pulled}
use Rattle.body_edits.proofs.IdsAfter.{ids_left, unlisted}
use Rattle.body_edits.proofs.ReadBodies.{op_seen_at}

-- ---- uses

module _ (ids : List ℕ) (id : OpId) (there : Contains ids id.index) where
  pub of_value : (v : Value) → IsLive ids v → is_of id.index v ≡ is_result_of (position_of ids id.index) (ref_by (position_of ids) v)
  of_value (Port n) live = refl
  of_value Undefined live = refl
  of_value (Result j k) live =
      sym (and_true (nat_eq j.index id.index)) ∙ same-ref_by ids (Result j 0) (Result id 0) live there ∙ and_true (nat_eq (position_of ids j.index) (position_of ids id.index))
    where
      and_true : (b : Bool) → b && true ≡ b
      and_true true = refl
      and_true false = refl

  -- no operand is a result by ids just where none is by positions
  none_by_ids : (vs : List Value) → All (IsLive ids) vs → list_any (is_result_of (position_of ids id.index)) (map (ref_by (position_of ids)) vs) ≡ false → All (λ v. is_of id.index v ≡ false) vs
  none_by_ids [] live none = All-nil (λ v. is_of id.index v ≡ false)
  none_by_ids (v ∷ vs) live none =
      let parts = neither (is_result_of (position_of ids id.index) (ref_by (position_of ids) v)) (list_any (is_result_of (position_of ids id.index)) (map (ref_by (position_of ids)) vs)) none in
      All-cons (λ w. is_of id.index w ≡ false) v vs (of_value v (All-head (IsLive ids) v vs live) ∙ parts.0) (none_by_ids vs (All-tail (IsLive ids) v vs live) parts.1)

  none_by_position : (vs : List Value) → All (IsLive ids) vs → All (λ v. is_of id.index v ≡ false) vs → list_any (is_result_of (position_of ids id.index)) (map (ref_by (position_of ids)) vs) ≡ false
  none_by_position [] live none = refl
  none_by_position (v ∷ vs) live none =
      ap₂ (λ a b. a || b) (sym (of_value v (All-head (IsLive ids) v vs live)) ∙ All-head (λ w. is_of id.index w ≡ false) v vs none)
      (none_by_position vs (All-tail (IsLive ids) v vs live) (All-tail (λ w. is_of id.index w ≡ false) v vs none))

  unused_by_ids : (ops : List BodyOp) → All (HasLive ids) ops → is_used (position_of ids id.index) (map (op_by (position_of ids)) ops) ≡ false → IsUnused id.index ops
  unused_by_ids [] live none = All-nil (λ (o : BodyOp). All (λ v. is_of id.index v ≡ false) o.operands)
  unused_by_ids (o ∷ ops) live none =
      let parts = neither (list_any (is_result_of (position_of ids id.index)) (map (ref_by (position_of ids)) o.operands)) (is_used (position_of ids id.index) (map (op_by (position_of ids)) ops)) none in
      All-cons (λ (p : BodyOp). All (λ v. is_of id.index v ≡ false) p.operands) o ops (none_by_ids o.operands (All-head (HasLive ids) o ops live) parts.0)
      (unused_by_ids ops (All-tail (HasLive ids) o ops live) parts.1)

  unused_by_position : (ops : List BodyOp) → All (HasLive ids) ops → IsUnused id.index ops → is_used (position_of ids id.index) (map (op_by (position_of ids)) ops) ≡ false
  unused_by_position [] live none = refl
  unused_by_position (o ∷ ops) live none =
      ap₂ (λ a b. a || b) (none_by_position o.operands (All-head (HasLive ids) o ops live) (All-head (λ (p : BodyOp). All (λ v. is_of id.index v ≡ false) p.operands) o ops none))
      (unused_by_position ops (All-tail (HasLive ids) o ops live) (All-tail (λ (p : BodyOp). All (λ v. is_of id.index v ≡ false) p.operands) o ops none))

-- of a body
pub body_unused : (b : Body) (id : OpId) → AreLive (ops_of b) → HasOp b id → is_used (position_in b id) (body_ops b) ≡ false → IsUnused id.index (ops_of b)
unfolding body_ops position_in
body_unused b id live there = unused_by_ids (ids_of b) id there (ops_of b) live

-- a test by ids is one by positions
pub unused_test : (b : Body) (id : OpId) (t : Bool) → AreLive (ops_of b) → HasOp b id → IsTrue t ↔ IsUnused id.index (ops_of b) → t ≡ not (is_used (position_in b id) (body_ops b))
unfolding body_ops position_in
unused_test b id t live there is = go t is (is_used (position_of (ids_of b) id.index) (ops_by_position (ops_of b))) refl
  where
    go : (t : Bool) → IsTrue t ↔ IsUnused id.index (ops_of b) → (u : Bool) → is_used (position_of (ids_of b) id.index) (ops_by_position (ops_of b)) ≡ u → t ≡ not u
    go true is false used = refl
    go true is true used = let clash : true ≡ false = sym used ∙ unused_by_position (ids_of b) id there (ops_of b) live (is.0 refl) in cc
    go false is true used = refl
    go false is false used = let clash : false ≡ true = is.1 (unused_by_ids (ids_of b) id there (ops_of b) live used) in cc

-- ---- the pattern

-- where it matches
pattern_at : (os : List Op) (i : ℕ) (o : Op) → slice_get os i ≡ Some o → fold_unused os i ≡ cond (is_pure o.kind && not (is_used i os)) (Some (erased i undefined ∷ [])) None
pattern_at os i o there = ap (λ z. option_and_then (λ (p : Op). cond (is_pure p.kind && not (is_used i os)) (Some (erased i undefined ∷ [])) None) z) there

pattern_tests : (os : List Op) (i : ℕ) (o : Op) → slice_get os i ≡ Some o → is_some (fold_unused os i) ≡ (is_pure o.kind && not (is_used i os))
pattern_tests os i o there = ap is_some (pattern_at os i o there) ∙ go (is_pure o.kind && not (is_used i os))
  where
    go : (b : Bool) → is_some (cond b (Some (erased i undefined ∷ [])) None) ≡ b
    go true = refl
    go false = refl

-- at an operation that is read
pub pure_test : (b : Body) (id : OpId) (o : ReadOp) (t : Bool) → AreLive (ops_of b) → HasOp b id → op_at (ops_of b) id.index ≡ Some (read_op id o) → is_pure (kind_of o.kind.now) ≡ true
    → IsTrue t ↔ IsUnused id.index (ops_of b) → t ≡ is_some (fold_unused (body_ops b) (position_in b id))
pure_test b id o t live there is pure unused =
    unused_test b id t live there unused
    ∙ sym (pattern_tests (body_ops b) (position_in b id) (op_seen b o) (op_seen_at b id o is) ∙ ap (λ p. p && not (is_used (position_in b id) (body_ops b))) pure)

pub other_test : (b : Body) (id : OpId) (o : ReadOp) → op_at (ops_of b) id.index ≡ Some (read_op id o) → is_pure (kind_of o.kind.now) ≡ false
    → false ≡ is_some (fold_unused (body_ops b) (position_in b id))
other_test b id o is other =
    sym (pattern_tests (body_ops b) (position_in b id) (op_seen b o) (op_seen_at b id o is) ∙ ap (λ p. p && not (is_used (position_in b id) (body_ops b))) other)

pub pattern_matched : (os : List Op) (i : ℕ) → is_some (fold_unused os i) ≡ true → (fold_unused os i ≡ Some (erased i undefined ∷ [])) × (is_used i os ≡ false)
pattern_matched os i is = of_op (slice_get os i) is
  where
    of_tests : (p u : Bool) → is_some (cond (p && not u) (Some (erased i undefined ∷ [])) None) ≡ true
        → (cond (p && not u) (Some (erased i undefined ∷ [])) None ≡ Some (erased i undefined ∷ [])) × (u ≡ false)
    of_tests true false is = (refl, refl)
    of_tests true true is = cc
    of_tests false u is = cc

    of_op : (x : Option Op) → is_some (option_and_then (λ (o : Op). cond (is_pure o.kind && not (is_used i os)) (Some (erased i undefined ∷ [])) None) x) ≡ true
        → (option_and_then (λ (o : Op). cond (is_pure o.kind && not (is_used i os)) (Some (erased i undefined ∷ [])) None) x ≡ Some (erased i undefined ∷ [])) × (is_used i os ≡ false)
    of_op None is = cc
    of_op (Some o) is = of_tests (is_pure o.kind) (is_used i os) is

-- ---- the operation gone

pub erased_plainly : (i : ℕ) (os : List Op) → without_op i os ≡ erase_op i undefined os
erased_plainly i os =
    map_same (retarget (pulled_ref i)) (retarget (without i undefined)) (remove os i)
    (λ o here. ap (λ rs. record o { operands = rs }) (map_same (pulled_ref i) (without i undefined) o.operands (λ r named. stand_pulled i r)))

-- an operation that nothing uses and that is taken out has gone by the pattern
pub unused_folded : (b b' : Body) (id : OpId) → AreLive (ops_of b) → HasOp b id → is_some (fold_unused (body_ops b) (position_in b id)) ≡ true
    → ops_of b' ≡ taken_out id.index (ops_of b) → IsFolded fold_unused b b' (position_in b id)
unfolding body_ops position_in
unused_folded b b' id live there matches taken = record {
  edits = erased (position_of (ids_of b) id.index) undefined ∷ [];
  matches = (pattern_matched (ops_by_position (ops_of b)) (position_of (ids_of b) id.index) matches).0;
  form = refl;
  ops = ap ops_by_position taken
      ∙ numbered-taken_out id.index (ops_of b) there
      (unused_by_ids (ids_of b) id there (ops_of b) live (pattern_matched (ops_by_position (ops_of b)) (position_of (ids_of b) id.index) matches).1)
      ∙ erased_plainly (position_of (ids_of b) id.index) (ops_by_position (ops_of b));
  fresh = (unlisted (ids_of b)).0;
  is_fresh = (unlisted (ids_of b)).1;
  ids = ap ids_in taken ∙ ids_left id.index (ops_of b);
}
