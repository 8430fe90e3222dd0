use Rattle.body_edits.proofs.OperandChanges.{with_operands_set}
use Rattle.body_edits.proofs.laws.operand_changes.Goals as goal

pub returns : goal.returns
returns c = with_operands_set
