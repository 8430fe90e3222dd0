use Rattle.std.proofs.Common.{subst}
use Rattle.body_edits.specs.declared.operands.OperandEdit.TheVariants.{Drop}
use Rattle.body_edits.specs.OperandEdits.{IsOperandEdit}
use Rattle.body_edits.specs.Views.{position_in}
use Rattle.body_edits.proofs.OperandEditing.{one_dropped}
use Rattle.body_edits.proofs.operands.drop_one.Goals as goal

pub returns-clause-ok : goal.returns-clause-ok
returns-clause-ok c =
    subst (λ k. IsOperandEdit (Drop k) c.args.body.now c.drop_operand.new.self (position_in c.args.body.now c.args.op)) c.in_ok-at.ensures
    (one_dropped c.args.body.now c.drop_operand.new.self c.args.op c.in_ok-at.at c.requires.live c.drop_operand.ensures.ops)
