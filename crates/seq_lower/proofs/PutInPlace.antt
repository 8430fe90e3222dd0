-- An operation put in the place of another one, for whose first result it then stands.
use Rattle.std.proofs.Common.{◌≡◌, ℕ, zero, suc, ◌<◌, List, [], ◌∷◌, length, set, Some, refl, sym, ap, subst, ◌∙◌, arith}
use Rattle.std.specs.Prelude.{Contains, insert, remove}
use Rattle.hw_model.specs.Design.{Op}
use Rattle.hw_model.specs.Design.Ref.{result}
use Rattle.ir_store.specs.declared.body.Body.{Body}
use Rattle.ir_store.specs.declared.operation.NewOp.{NewOp}
use Rattle.ir_store.specs.declared.operation.OpId.{OpId}
use Rattle.ir_store.specs.declared.operation.Value.TheVariants.{Result}
use Rattle.ir_store.specs.Bodies.{ids_of, ops_of}
use Rattle.ir_store.specs.BodyOps.{as_new, put_before, taken_out, all_replaced, IsUnused}
use Rattle.ir_store.specs.Numbered.{ops_by_position}
use Rattle.body_edits.specs.Replaceable.{MayStand}
use Rattle.body_edits.specs.Replaced.{IsReplaced}
use Rattle.body_edits.specs.Views.{HasOp, body_ops, position_in, value_ref}
use Rattle.body_edits.proofs.FitOps.{fit_unused}
use Rattle.body_edits.proofs.IdsAfter.{ids_stood_in}
use Rattle.body_edits.proofs.Positions.{position_within}
use Rattle.body_edits.proofs.Replacing.{numbered_in_place}
use Rattle.body_edits.proofs.StandingValues.{still_there}
use Rattle.seq_lower.specs.Puts.{IsReady, MayBeOperands, new_with, IsPutBefore}
use Rattle.seq_lower.proofs.PutBefore.{own_live, operands_alone}

-- an id put in before another one, which goes
in_its_position : (ids : List ℕ) (i id : ℕ) → i < length ids → remove (insert ids i id) (suc i) ≡ set ids i id
in_its_position [] i id within = absurd (omega (arith, within))
in_its_position (x ∷ ids) zero id within = refl
in_its_position (x ∷ ids) (suc i) id within = ap (λ js. x ∷ js) (in_its_position ids i id (omega (arith, within)))

op_within : (b : Body) (op : OpId) → HasOp b op → position_in b op < length (ids_of b)
unfolding position_in
op_within b op there = position_within (ids_of b) op.index there

module _ (b b1 : Body) (op id : OpId) (new : NewOp) (ready : IsReady b op) (may : MayBeOperands b op new.operands.items) (fresh : Contains (ids_of b) id.index → ⊥)
    (added : ops_of b1 ≡ put_before (Some op) (as_new id new) (ops_of b)) (o : Op) (n : ℕ) (put : IsPutBefore b b1 op id o n) where
  may_stand : MayStand (body_ops b1) (position_in b1 op) (value_ref b1 (Result id 0))
  may_stand = record {
    other = λ k is.
        let same : result (position_in b op) 0 ≡ result (suc (position_in b op)) k = sym put.own ∙ is ∙ ap (λ i. result i k) put.position in
        let clash : position_in b op ≡ suc (position_in b op) = cc in
        absurd (omega (arith, clash));
    no_further = put.ready.alone;
  }

  unused : IsUnused op.index (all_replaced (Result op 0) (Result id 0) (ops_of b1))
  unused = fit_unused b1 op (Result id 0) may_stand

  module _ (b2 : Body) (replaced : ops_of b2 ≡ all_replaced (Result op 0) (Result id 0) (ops_of b1)) where
    pub there_replaced : HasOp b2 op
    there_replaced = still_there op (Result id 0) b1 b2 put.ready.there replaced

    pub unused_replaced : IsUnused op.index (ops_of b2)
    unused_replaced = subst (IsUnused op.index) (sym replaced) unused

    module _ (b3 : Body) (gone : ops_of b3 ≡ taken_out op.index (ops_of b2)) where
      set_ops : body_ops b3 ≡ set (body_ops b) (position_in b op) (new_with b new new.operands.items)
      unfolding body_ops position_in value_ref
      set_ops =
          ap ops_by_position (gone ∙ ap (taken_out op.index) (replaced ∙ ap (all_replaced (Result op 0) (Result id 0)) added))
          ∙ numbered_in_place op id (as_new id new) (ops_of b) ready.live ready.there refl (own_live b b1 op id new ready may fresh added) fresh ready.alone
          (operands_alone b op new new.operands.items may)
          (subst (λ ops. IsUnused op.index (all_replaced (Result op 0) (Result id 0) ops)) added unused)

      set_ids : ids_of b3 ≡ set (ids_of b) (position_in b op) id.index
      set_ids =
          ids_stood_in op (Result id 0) b1 b2 b3 replaced gone
          ∙ ap (remove (ids_of b1)) put.position ∙ ap (λ ids. remove ids (suc (position_in b op))) put.ids
          ∙ in_its_position (ids_of b) (position_in b op) id.index (op_within b op ready.there)

      pub was_replaced : IsReplaced b b3 (position_in b op) (new_with b new new.operands.items)
      was_replaced = record { ops = set_ops; fresh = id.index; is_fresh = fresh; ids = set_ids }
