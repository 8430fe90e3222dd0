-- An operation that takes in another one which made an operand of it and has no other use.
use Rattle.std.proofs.Common.{◌≡◌, ℕ, ◌<◌, Bool, true, false, cond, nat_eq, List, [], ◌∷◌, length, map, set, Option, Some, slice_get, sym, ap, ap₂, subst, ◌∙◌, arith}
use Rattle.std.specs.Prelude.{All, remove, IfSome}
use Rattle.std.proofs.lemmas.List.{length-map}
use Rattle.std.proofs.lemmas.Option.{slice_get_within}
use Rattle.fold_laws.proofs.Splices.{map-splice}
use Rattle.hw_model.specs.Design.{Ref, Op}
use Rattle.hw_model.specs.Design.Ref.{result, undefined}
use Rattle.edit_laws.specs.Laws.{erase_op}
use Rattle.ir_store.specs.declared.body.Body.{Body}
use Rattle.ir_store.specs.declared.operation.OpId.{OpId}
use Rattle.ir_store.specs.declared.operation.Value.{Value}
use Rattle.ir_store.specs.Bodies.{ids_of, ops_of}
use Rattle.ir_store.specs.BodyOps.{BodyOp, ids_in, op_at, operands_at, taken_out, HasOperand, IsUnused}
use Rattle.ir_store.specs.Live.{IsLive, HasLive, AreLive}
use Rattle.ir_store.specs.Numbered.{position_of, ref_by, op_by, ops_by_position}
use Rattle.ir_store.proofs.BodyLemmas.{ids_once}
use Rattle.ir_store.proofs.Living.{ids_stay, changed_live, all_none, first_of_all, rest_of_all}
use Rattle.ir_store.proofs.Numbering.{numbered-operands_at, numbered-taken_out}
use Rattle.fold_laws.specs.Nested.{splice}
use Rattle.fold_laws.specs.Unused.{is_used}
use Rattle.fold_laws.proofs.NestedUses.{named_once, uses-set, uses-splice, uses_of_two, unused_then, own_result}
use Rattle.body_edits.specs.FitBodies.{IsOfFit}
use Rattle.body_edits.specs.Nests.{IsInner, IsTakenIn, values_of}
use Rattle.body_edits.specs.OperandEdits.{operands_there}
use Rattle.body_edits.specs.Views.{HasOp, body_ops, position_in}
use Rattle.body_edits.proofs.FitOps.{fit_live}
use Rattle.body_edits.proofs.IdsAfter.{ids_left}
use Rattle.body_edits.proofs.OperandChanges.{with_operands_set}
use Rattle.body_edits.proofs.OperandEditing.{op_there, operands_seen, has_operand, same_position}
use Rattle.body_edits.proofs.Positions.{position_there}
use Rattle.body_edits.proofs.SpliceEdits.{all_splice, one_change, each_there}
use Rattle.body_edits.proofs.UnusedPattern.{body_unused, erased_plainly}

-- ---- operations that are there

-- an operation that stands at the position of an id is there
pub id_there : (b : Body) (id : OpId) (o : Op) → slice_get (body_ops b) (position_in b id) ≡ Some o → HasOp b id
unfolding body_ops position_in
id_there b id o is =
    let within = slice_get_within (ops_by_position (ops_of b)) (position_of (ids_of b) id.index) o is in
    let many = length-map (ops_of b) (op_by (position_of (ids_of b))) in
    let same = length-map (ops_of b) (λ (p : BodyOp). p.id) in
    position_there (ids_of b) id.index (omega (arith, within, many, same))

-- its operands by positions are those by ids
pub values_seen : (b : Body) (id : OpId) (o : Op) → slice_get (body_ops b) (position_in b id) ≡ Some o → map (ref_by (position_of (ids_of b))) (values_of (op_at (ops_of b) id.index)) ≡ o.operands
values_seen b id o is =
    let one = op_there (ops_of b) id.index (id_there b id o is) in
    let both : Some (op_by (position_of (ids_of b)) one.0) ≡ Some o = sym (operands_seen b id one.0 one.1) ∙ is in
    let same : op_by (position_of (ids_of b)) one.0 ≡ o = cc in
    ap (λ x. map (ref_by (position_of (ids_of b))) (values_of x)) one.1 ∙ ap (λ (p : Op). p.operands) same

-- an operation that nothing names, taken out
pub gone_seen : (b b' : Body) (id : OpId) → HasOp b id → IsUnused id.index (ops_of b) → ops_of b' ≡ taken_out id.index (ops_of b) → body_ops b' ≡ erase_op (position_in b id) undefined (body_ops b)
unfolding body_ops position_in
gone_seen b b' id there unused gone =
    ap ops_by_position gone ∙ numbered-taken_out id.index (ops_of b) there unused ∙ erased_plainly (position_of (ids_of b) id.index) (ops_by_position (ops_of b))

pub gone_ids : (b b' : Body) (id : OpId) → ops_of b' ≡ taken_out id.index (ops_of b) → ids_of b' ≡ remove (ids_of b) (position_in b id)
unfolding position_in
gone_ids b b' id gone = ap ids_in gone ∙ ids_left id.index (ops_of b)

one_op : (x : Option Op) (o p : Op) → x ≡ Some o → x ≡ Some p → o ≡ p
one_op x o p first second = let both : Some o ≡ Some p = sym first ∙ second in cc

-- they are live
values_live : (ids : List ℕ) (ops : List BodyOp) (id : ℕ) → All (HasLive ids) ops → All (IsLive ids) (values_of (op_at ops id))
values_live ids [] id live = all_none (IsLive ids)
values_live ids (o ∷ ops) id live = go (nat_eq o.id id) (values_live ids ops id (rest_of_all (HasLive ids) o ops live))
  where
    go : (t : Bool) → All (IsLive ids) (values_of (op_at ops id)) → All (IsLive ids) (values_of (cond t (Some o) (op_at ops id)))
    go true rest = first_of_all (HasLive ids) o ops live
    go false rest = rest

one_position : (b : Body) (i j : OpId) → i.index ≡ j.index → position_in b i ≡ position_in b j
unfolding position_in
one_position b i j same = ap (position_of (ids_of b)) same

-- ---- the operands of one in the place of an operand of another

-- a change of operands by ids, by positions
changed_seen : (b b' : Body) (op : OpId) (o : Op) (n : ℕ) (ws : List Value) → HasOp b op → slice_get (body_ops b) (position_in b op) ≡ Some o → n < length o.operands
    → ops_of b' ≡ operands_at op.index (splice n ws) (ops_of b)
    → body_ops b' ≡ set (body_ops b) (position_in b op) (record o { operands = splice n (map (ref_by (position_of (ids_of b))) ws) o.operands })
unfolding body_ops position_in
changed_seen b b' op o n ws there is within put =
    ap ops_by_position put
    ∙ numbered-operands_at op.index (splice n ws) (splice n (map (ref_by (position_of (ids_of b))) ws)) (ops_of b) (ids_once b) there (λ xs. map-splice (ref_by (position_of (ids_of b))) n ws xs)
    ∙ with_operands_set (position_of (ids_of b) op.index) (splice n (map (ref_by (position_of (ids_of b))) ws)) (ops_by_position (ops_of b)) o is

module _ (b : Body) (op inner : OpId) (n : ℕ) (of : IsOfFit b) (there : HasOp b op) (is : IsInner (body_ops b) (position_in b op) n (position_in b inner)) where
  -- they are two operations, and both are there
  pub inner_other : inner.index ≡ op.index → ⊥
  inner_other same = is.other (one_position b inner op same)

  pub inner_there : HasOp b inner
  inner_there = id_there b inner is.inner is.inside

  -- the operand is there, by positions and by ids
  within : n < length is.outer.operands
  within = slice_get_within is.outer.operands n (result (position_in b inner) 0) is.named

  pub inner_operand : HasOperand (ops_of b) op.index n
  inner_operand = has_operand b op n there (subst (λ x. n < length (operands_there x)) (sym is.there) within)

  pub within_values : (o : BodyOp) → op_at (ops_of b) op.index ≡ Some o → n < length o.operands
  within_values o at = subst (λ (x : Option BodyOp). IfSome x (λ (p : BodyOp). n < length p.operands)) at inner_operand

  -- they are put in the place of the operand
  pub put_spliced : (b' : Body) (outer others all : List Value) (kind : BodyOp) → op_at (ops_of b) op.index ≡ Some kind → kind.operands ≡ outer → values_of (op_at (ops_of b) inner.index) ≡ others → all ≡ splice n others outer
      → ops_of b' ≡ operands_at op.index (λ xs. all) (ops_of b) → ops_of b' ≡ operands_at op.index (splice n (values_of (op_at (ops_of b) inner.index))) (ops_of b)
  put_spliced b' outer others all kind at own read is put =
      put
      ∙ one_change op.index (λ xs. all) (splice n (values_of (op_at (ops_of b) inner.index))) kind (ops_of b) (ids_once b op.index) at
      (is ∙ ap₂ (splice n) (sym read) (sym own))

  module _ (b' : Body) (put : ops_of b' ≡ operands_at op.index (splice n (values_of (op_at (ops_of b) inner.index))) (ops_of b)) where
    joined : Op
    joined = record is.outer { operands = splice n is.inner.operands is.outer.operands }

    pub same_ids : ids_of b' ≡ ids_of b
    same_ids = ap ids_in put ∙ ids_stay op.index (splice n (values_of (op_at (ops_of b) inner.index))) (ops_of b)

    pub inner_stays : HasOp b' inner
    inner_stays = each_there b b' op.index (splice n (values_of (op_at (ops_of b) inner.index))) inner put inner_there

    joined_seen : body_ops b' ≡ set (body_ops b) (position_in b op) (record is.outer { operands = splice n is.inner.operands is.outer.operands })
    joined_seen =
        changed_seen b b' op is.outer n (values_of (op_at (ops_of b) inner.index)) there is.there within put
        ∙ ap (λ (rs : List Ref). set (body_ops b) (position_in b op) (record is.outer { operands = splice n rs is.outer.operands })) (values_seen b inner is.inner is.inside)

    joined_live : AreLive (ops_of b')
    joined_live =
        subst AreLive (sym put)
        (changed_live op.index (splice n (values_of (op_at (ops_of b) inner.index))) (ops_of b)
        (λ xs live. all_splice (IsLive (ids_of b)) n (values_of (op_at (ops_of b) inner.index)) xs (values_live (ids_of b) (ops_of b) inner.index (fit_live b of)) live)
        (fit_live b of))

    no_uses : is_used (position_in b inner) (set (body_ops b) (position_in b op) (record is.outer { operands = splice n is.inner.operands is.outer.operands })) ≡ false
    no_uses =
        let j : ℕ = position_in b inner in
        let o' : Op = record is.outer { operands = splice n is.inner.operands is.outer.operands } in
        let change = uses-set (position_in b inner) (body_ops b) (position_in b op) is.outer (record is.outer { operands = splice n is.inner.operands is.outer.operands }) is.there in
        let both = uses_of_two (position_in b inner) (body_ops b) (position_in b op) (position_in b inner) is.outer is.inner is.other is.there is.inside in
        let spliced = uses-splice (position_in b inner) n is.inner.operands is.outer.operands (result (position_in b inner) 0) is.named in
        let own = own_result (position_in b inner) 0 in
        let named = named_once (position_in b inner) n is.outer.operands is.named in
        let once = is.once in
        unused_then (position_in b inner) (set (body_ops b) (position_in b op) (record is.outer { operands = splice n is.inner.operands is.outer.operands })) (omega (arith, change, both, spliced, own, named, once))

    -- nothing names the one whose operands they were
    pub inner_unused : IsUnused inner.index (ops_of b')
    inner_unused =
        body_unused b' inner joined_live inner_stays
        (ap₂ is_used (same_position b b' inner same_ids) joined_seen ∙ no_uses)

    -- it is gone
    pub taken_in : (b'' : Body) → ops_of b'' ≡ taken_out inner.index (ops_of b') → IsTakenIn b b'' (position_in b op) n (position_in b inner)
    taken_in b'' gone = record {
      ops = λ o c o_there c_there.
          gone_seen b' b'' inner inner_stays inner_unused gone
          ∙ ap₂ (λ i os. erase_op i undefined os) (same_position b b' inner same_ids) joined_seen
          ∙ ap₂ (λ (p q : Op). erase_op (position_in b inner) undefined (set (body_ops b) (position_in b op) (record p { operands = splice n q.operands p.operands })))
          (one_op (slice_get (body_ops b) (position_in b op)) is.outer o is.there o_there) (one_op (slice_get (body_ops b) (position_in b inner)) is.inner c is.inside c_there);
      ids = gone_ids b' b'' inner gone ∙ ap₂ (λ ids i. remove ids i) same_ids (same_position b b' inner same_ids);
    }
