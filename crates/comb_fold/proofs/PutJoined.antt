-- A new operation without operands that is put before another one, in the place of two of its operands.
use Rattle.std.proofs.Common.{◌≡◌, ℕ, suc, ◌<◌, ◌≤◌, List, [], length, map, set, slice_set, Option, Some, slice_get, sym, ap, ap₂, subst, ◌∙◌, arith}
use Rattle.std.specs.Prelude.{All, Contains, insert, remove, IfSome}
use Rattle.std.proofs.lemmas.List.{length-map}
use Rattle.hw_model.specs.Design.{Op}
use Rattle.hw_model.specs.Design.Ref.{result}
use Rattle.edit_laws.specs.Laws.{up_ref, insert_op}
use Rattle.ir_store.specs.declared.body.Body.{Body}
use Rattle.ir_store.specs.declared.operation.NewOp.{NewOp}
use Rattle.ir_store.specs.declared.operation.OpId.{OpId}
use Rattle.ir_store.specs.declared.operation.Value.{Value}
use Rattle.ir_store.specs.declared.operation.Value.TheVariants.{Result}
use Rattle.ir_store.specs.Bodies.{ids_of, ops_of}
use Rattle.ir_store.specs.BodyOps.{BodyOp, ids_in, as_new, put_before, operands_at, HasOperand}
use Rattle.ir_store.specs.Live.{IsLive}
use Rattle.ir_store.specs.Numbered.{position_of, ref_by, op_by, ops_by_position}
use Rattle.ir_store.specs.OperationViews.{new_parts}
use Rattle.ir_store.specs.Positions.{retarget, with_op, with_operands}
use Rattle.ir_store.proofs.BodyLemmas.{ids_once}
use Rattle.ir_store.proofs.Living.{all_none, ids_stay, still_contained, times-put_before}
use Rattle.ir_store.proofs.Numbering.{numbered-put_before, numbered-set}
use Rattle.fold_laws.proofs.PutIn.{next_op}
use Rattle.body_edits.specs.FitBodies.{IsOfFit}
use Rattle.comb_fold.specs.Joins.{IsPutIn}
use Rattle.body_edits.specs.OperandEdits.{operands_there}
use Rattle.body_edits.specs.Replaced.{plain_op}
use Rattle.body_edits.specs.Views.{HasOp, body_ops, position_in, value_ref}
use Rattle.body_edits.proofs.FitOps.{fit_live}
use Rattle.body_edits.proofs.OperandChanges.{with_operands_set}
use Rattle.body_edits.proofs.OperandEditing.{op_there, operands_seen, has_operand, op_stays, then_dropped}
use Rattle.body_edits.proofs.OpsPutIn.{put_in_same, ids_put}
use Rattle.body_edits.proofs.Positions.{position_within, position_after, position_before}

-- ---- bodies

module _ (b b1 : Body) (op id : OpId) (new : NewOp) (of : IsOfFit b) (there : HasOp b op) (none : new.operands.items ≡ []) (fresh : Contains (ids_of b) id.index → ⊥)
    (added : ops_of b1 ≡ put_before (Some op) (as_new id new) (ops_of b)) where
  other : id.index ≡ op.index → ⊥
  other same = fresh (subst (Contains (ids_of b)) (sym same) there)

  pub still_put : HasOp b1 op
  still_put =
      subst (λ ids. Contains ids op.index) (sym (ap ids_in added))
      (still_contained (ids_of b) (ids_in (put_before (Some op) (as_new id new) (ops_of b))) (λ v. omega (arith, times-put_before v (Some op) (as_new id new) (ops_of b))) op.index there)

  moved_on : position_in b1 op ≡ suc (position_in b op)
  unfolding position_in
  moved_on = ap (λ ops. position_of (ids_in ops) op.index) added ∙ position_after op (as_new id new) (ops_of b) there other

  new_ref : value_ref b1 (Result id 0) ≡ result (position_in b op) 0
  unfolding position_in value_ref
  new_ref = ap (λ n. result n 0) (ap (λ ops. position_of (ids_in ops) id.index) added ∙ position_before op (as_new id new) (ops_of b) fresh)

  put_seen : body_ops b1 ≡ insert_op (position_in b op) (plain_op (new_parts new)) (body_ops b)
  unfolding body_ops position_in
  put_seen =
      ap ops_by_position added
      ∙ numbered-put_before op (as_new id new) (ops_of b) (fit_live b of) (subst (All (IsLive (ids_of b))) (sym none) (all_none (IsLive (ids_of b)))) there fresh
      ∙ ap (λ (vs : List Value). with_op (position_of (ids_of b) op.index) (record (plain_op (new_parts new)) { operands = map (ref_by (position_of (ids_of b))) vs }) (ops_by_position (ops_of b))) none
      ∙ put_in_same (position_of (ids_of b) op.index) (plain_op (new_parts new)) (ops_by_position (ops_of b))

  op_within : position_in b op ≤ length (body_ops b)
  unfolding body_ops position_in
  op_within =
      let within = position_within (ids_of b) op.index there in
      let many = length-map (ops_of b) (op_by (position_of (ids_of b))) in
      let same = length-map (ops_of b) (λ (p : BodyOp). p.id) in
      omega (arith, within, many, same)

  after_seen : (o : Op) → slice_get (body_ops b) (position_in b op) ≡ Some o → slice_get (body_ops b1) (position_in b1 op) ≡ Some (retarget (up_ref (position_in b op)) o)
  after_seen o is = ap₂ (λ os i. slice_get os i) put_seen moved_on ∙ next_op (body_ops b) (position_in b op) (plain_op (new_parts new)) op_within o is

  -- the operands stay
  pub operand_put : (k : ℕ) → HasOperand (ops_of b) op.index k → HasOperand (ops_of b1) op.index k
  operand_put k within =
      let one = op_there (ops_of b) op.index there in
      let below : k < length one.0.operands = subst (λ (x : Option BodyOp). IfSome x (λ (o : BodyOp). k < length o.operands)) one.1 within in
      let o : Op = op_by (position_of (ids_of b)) one.0 in
      let seen = ap (λ x. length (operands_there x)) (after_seen (op_by (position_of (ids_of b)) one.0) (operands_seen b op one.0 one.1)) in
      let first = length-map one.0.operands (ref_by (position_of (ids_of b))) in
      let second = length-map (map (ref_by (position_of (ids_of b))) one.0.operands) (up_ref (position_in b op)) in
      has_operand b1 op k still_put (omega (arith, below, seen, first, second))

  module _ (b2 b3 : Body) (first second : ℕ) (set_one : ops_of b2 ≡ operands_at op.index (λ xs. slice_set xs second (Result id 0)) (ops_of b1))
      (dropped : ops_of b3 ≡ operands_at op.index (λ xs. remove xs first) (ops_of b2)) where
    set_ids : ids_of b2 ≡ ids_of b1
    set_ids = ap ids_in set_one ∙ ids_stay op.index (λ xs. slice_set xs second (Result id 0)) (ops_of b1)

    set_seen : body_ops b2 ≡ with_operands (position_in b1 op) (λ rs. slice_set rs second (value_ref b1 (Result id 0))) (body_ops b1)
    unfolding body_ops position_in value_ref
    set_seen = ap ops_by_position set_one ∙ numbered-set op.index second (Result id 0) (ops_of b1) (ids_once b1) still_put

    ids_then : ids_of b3 ≡ insert (ids_of b) (position_in b op) id.index
    unfolding position_in
    ids_then = ap ids_in dropped ∙ ids_stay op.index (λ xs. remove xs first) (ops_of b2) ∙ set_ids ∙ ap ids_in added ∙ ids_put op (as_new id new) (ops_of b)

    pub put_joined : IsPutIn b b3 (position_in b op) first second (plain_op (new_parts new))
    put_joined = record {
      ops = λ o is.
          then_dropped b1 b2 b3 op first (λ rs. slice_set rs second (value_ref b1 (Result id 0))) (op_stays b1 b2 op (λ xs. slice_set xs second (Result id 0)) set_one still_put) set_seen set_ids dropped
          ∙ with_operands_set (position_in b1 op) (λ rs. remove (slice_set rs second (value_ref b1 (Result id 0))) first) (body_ops b1) (retarget (up_ref (position_in b op)) o) (after_seen o is)
          ∙ ap₂ (λ os i. set os i (record o { operands = remove (slice_set (map (up_ref (position_in b op)) o.operands) second (value_ref b1 (Result id 0))) first })) put_seen moved_on
          ∙ ap (λ r. set (insert_op (position_in b op) (plain_op (new_parts new)) (body_ops b)) (suc (position_in b op))
          (record o { operands = remove (slice_set (map (up_ref (position_in b op)) o.operands) second r) first })) new_ref;
      fresh = id.index;
      is_fresh = fresh;
      ids = ids_then;
    }
