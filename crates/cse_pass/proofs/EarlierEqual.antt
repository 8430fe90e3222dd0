-- What is found among the operations of one hash of a body in code is the first equal operation.
use Rattle.std.proofs.Common.{◌≡◌, ℕ, zero, suc, true, false, cond, nat_eq, List, [], ◌∷◌, map, take, drop, filter, find, get_or, Option, Some, None, slice_get, option_map, IfSome, All, Contains}
use Rattle.std.proofs.Common.{refl, sym, ap, ap₂, subst, ◌∙◌, arith, eq-eqb, option_and_then}
use Rattle.std.proofs.lemmas.List.{take-map, take-append-drop}
use Rattle.std.proofs.lemmas.List.Elements.{All-nil, All-cons, All-weaker, All-take, All-map, All-filter}
use Rattle.std.proofs.lemmas.Option.{slice_get-get_or}
use Rattle.hw_model.specs.Equality.{both}
use Rattle.hw_model.specs.Design.{Op}
use Rattle.hw_model.specs.KindViews.{kind_of}
use Rattle.ir_store.specs.declared.body.Body.{Body}
use Rattle.ir_store.specs.declared.body.Op.{Op as ReadOp}
use Rattle.ir_store.specs.declared.operation.OpId.{OpId}
use Rattle.ir_store.specs.Bodies.{ids_of, ops_of, op_id, read_op, read_parts}
use Rattle.ir_store.specs.BodyOps.{BodyOp, ids_in, op_at}
use Rattle.ir_store.specs.Live.{HasLive, AreLive, AreDistinct}
use Rattle.ir_store.specs.Numbered.{position_of, op_by}
use Rattle.ir_store.proofs.BodyLemmas.{ids_once}
use Rattle.ir_store.proofs.Walks.{found_by_id}
use Rattle.fold_laws.specs.Unused.{is_pure}
use Rattle.body_edits.specs.FitBodies.{IsOfFit}
use Rattle.body_edits.specs.Views.{HasOp, body_ops, position_in, value_ref, op_seen}
use Rattle.body_edits.proofs.FitOps.{fit_live}
use Rattle.body_edits.proofs.ReadBodies.{op_seen_at, op_live}
use Rattle.cse_pass.specs.declared.groups.Groups.{Groups}
use Rattle.cse_pass.specs.EqualOps.{equal_position, equal_before}
use Rattle.cse_pass.specs.Groups.{group_of, has_hash, IsGrouping}
use Rattle.cse_pass.specs.Hashes.{hash_of}
use Rattle.cse_pass.specs.Same.{are_same, are_same_ops, are_same_at}
use Rattle.cse_pass.proofs.EqualFinding.{IsTested, finds_equal, found_has}
use Rattle.cse_pass.proofs.Grouping.{stands_at}
use Rattle.cse_pass.proofs.SameHashes.{same_is_equal, same_hash, same_purity}

-- ---- where no operation is equal, and where one is

before_impure : (os : List Op) (i : ℕ) (o : Op) → slice_get os i ≡ Some o → is_pure o.kind ≡ false → equal_before os i ≡ None
before_impure os i o there other =
    ap (λ x. option_and_then (λ (p : Op). cond (is_pure p.kind) (equal_position p (take i os)) None) x) there ∙ ap (λ b. cond b (equal_position o (take i os)) None) other

before_pure : (os : List Op) (i : ℕ) (o : Op) → slice_get os i ≡ Some o → is_pure o.kind ≡ true → equal_before os i ≡ equal_position o (take i os)
before_pure os i o there pure =
    ap (λ x. option_and_then (λ (p : Op). cond (is_pure p.kind) (equal_position p (take i os)) None) x) there ∙ ap (λ b. cond b (equal_position o (take i os)) None) pure

-- ---- ids

ids_there : (ops : List BodyOp) → All (λ (o : BodyOp). Contains (ids_in ops) o.id) ops
ids_there [] = All-nil (λ (o : BodyOp). Contains (ids_in []) o.id)
ids_there (o ∷ ops) =
    All-cons (λ (p : BodyOp). Contains (o.id ∷ ids_in ops) p.id) o ops (zero, omega arith, refl)
    (All-weaker (λ (p : BodyOp). Contains (ids_in ops) p.id) (λ (p : BodyOp). Contains (o.id ∷ ids_in ops) p.id) (λ p c. (suc c.0, omega (arith, c.1), c.2)) ops (ids_there ops))

pub group_there : (ops : List BodyOp) (g : Groups) (i h : ℕ) → IsGrouping g (take i ops) → All (λ (id : OpId). Contains (ids_in ops) id.index) (group_of g h)
group_there ops g i h grouped =
    subst (All (λ (id : OpId). Contains (ids_in ops) id.index)) (sym (grouped.groups h))
    (All-map (λ (id : OpId). Contains (ids_in ops) id.index) (λ (o : BodyOp). op_id o.id) (filter (has_hash h) (take i ops))
    (All-filter (has_hash h) (λ (o : BodyOp). Contains (ids_in ops) o.id) (take i ops)
    (All-take (λ (o : BodyOp). Contains (ids_in ops) o.id) i ops (ids_there ops))))

-- ---- the test by ids

module _ (ops : List BodyOp) (once : AreDistinct (ids_in ops)) (live : AreLive ops) (id : OpId) (o : BodyOp) (is : op_at ops id.index ≡ Some o) (own : HasLive (ids_in ops) o)
    (pure : is_pure o.parts.kind ≡ true) where
  test_is : (p : BodyOp) → op_at ops p.id ≡ Some p → are_same_at ops (op_id p.id) id ≡ are_same p.parts p.operands o.parts o.operands
  test_is p there = ap₂ are_same_ops there is

  keeps : (p : BodyOp) → are_same p.parts p.operands o.parts o.operands ≡ true → has_hash (hash_of o.parts o.operands) p ≡ true
  unfolding has_hash
  keeps p same =
      both (is_pure p.parts.kind) (nat_eq (hash_of p.parts p.operands) (hash_of o.parts o.operands))
      (same_purity p.parts p.operands o.parts o.operands same ∙ pure)
      (eq-eqb (hash_of p.parts p.operands) (hash_of o.parts o.operands) (same_hash p.parts p.operands o.parts o.operands same))

  tested : (p : BodyOp) → op_at ops p.id ≡ Some p → HasLive (ids_in ops) p
      → IsTested (position_of (ids_in ops)) (λ (x : OpId). are_same_at ops x id) (has_hash (hash_of o.parts o.operands)) o p
  tested p there here = record {
    is = test_is p there ∙ same_is_equal (ids_in ops) p o here own;
    kept = λ same. keeps p (sym (test_is p there) ∙ same);
  }

  all_tested : All (IsTested (position_of (ids_in ops)) (λ (x : OpId). are_same_at ops x id) (has_hash (hash_of o.parts o.operands)) o) ops
  all_tested = λ k d less. tested (get_or ops k d) (found_by_id ops once k (get_or ops k d) (slice_get-get_or ops k d less)) (live k d less)

  pub finds : (g : Groups) (i : ℕ) → IsGrouping g (take i ops)
      → equal_position (op_by (position_of (ids_in ops)) o) (take i (map (op_by (position_of (ids_in ops))) ops))
      ≡ option_map (λ (x : OpId). position_of (ids_in ops) x.index) (find (λ (x : OpId). are_same_at ops x id) (group_of g (hash_of o.parts o.operands)))
  finds g i grouped =
      ap (equal_position (op_by (position_of (ids_in ops)) o)) (take-map (op_by (position_of (ids_in ops))) i ops)
      ∙ finds_equal (position_of (ids_in ops)) (λ (x : OpId). are_same_at ops x id) (has_hash (hash_of o.parts o.operands)) o (drop i ops) (take i ops)
      (All-take (IsTested (position_of (ids_in ops)) (λ (x : OpId). are_same_at ops x id) (has_hash (hash_of o.parts o.operands)) o) i ops all_tested)
      ∙ ap₂ (λ xs ys. option_map (λ (x : OpId). position_of (ids_in xs) x.index) (find (λ (x : OpId). are_same_at ops x id) ys))
      (take-append-drop i ops) (sym (grouped.groups (hash_of o.parts o.operands)))

-- ---- in a body

module _ (b : Body) (fit : IsOfFit b) (id : OpId) (o : ReadOp) (is : op_at (ops_of b) id.index ≡ Some (read_op id o)) (i : ℕ) (at : i ≡ position_in b id) where
  pub none_impure : is_pure (kind_of o.kind.now) ≡ false → equal_before (body_ops b) i ≡ None
  none_impure other = before_impure (body_ops b) i (op_seen b o) (ap (slice_get (body_ops b)) at ∙ op_seen_at b id o is) other

  pub position_found : is_pure (kind_of o.kind.now) ≡ true → (g : Groups) → IsGrouping g (take i (ops_of b)) → (r : Option OpId)
      → r ≡ find (λ (x : OpId). are_same_at (ops_of b) x id) (group_of g (hash_of (read_parts o) o.operands.now)) → equal_before (body_ops b) i ≡ option_map (position_in b) r
  unfolding body_ops position_in value_ref
  position_found pure g grouped r found =
      before_pure (body_ops b) i (op_seen b o) (ap (slice_get (body_ops b)) at ∙ op_seen_at b id o is) pure
      ∙ finds (ops_of b) (ids_once b) (fit_live b fit) id (read_op id o) is (op_live b id o (fit_live b fit) is) pure g i grouped
      ∙ ap (option_map (λ (x : OpId). position_of (ids_of b) x.index)) (sym found)

  pub found_there : (g : Groups) → IsGrouping g (take i (ops_of b)) → (h : ℕ) (r : Option OpId) → r ≡ find (λ (x : OpId). are_same_at (ops_of b) x id) (group_of g h) → IfSome r (HasOp b)
  found_there g grouped h r found =
      subst (λ x. IfSome x (HasOp b)) (sym found)
      (found_has (HasOp b) (λ (x : OpId). are_same_at (ops_of b) x id) (group_of g h) (group_there (ops_of b) g i h grouped))

  pub stands_here : slice_get (ops_of b) i ≡ Some (read_op id o)
  unfolding position_in
  stands_here = ap (slice_get (ops_of b)) at ∙ stands_at (ops_of b) id.index (read_op id o) is
