use Rattle.std.specs.Prelude.{OnOk, Result, Ok, Err}
use Rattle.body_edits.specs.Views.{position_in}
use Rattle.body_edits.proofs.OperandEditing.{operands_folded}
use Rattle.body_edits.proofs.operands.apply_operands.Goals as goal

then_ok : {T E : Type 0} (r : Result T E) (P Q : Type 0) → (P → Q) → OnOk r P → OnOk r Q
then_ok (Ok x) P Q f h = f h
then_ok (Err e) P Q f h = tt

pub returns-clause-folded : goal.returns-clause-folded
returns-clause-folded g c =
    then_ok c.edit_operands.result _ _
    (operands_folded g.R.OperandPattern.operands c.in-Some.edit c.args.body.now c.edit_operands.new.body (position_in c.args.body.now c.args.op) c.in-Some.ensures.operands)
    c.edit_operands.ensures.ok
