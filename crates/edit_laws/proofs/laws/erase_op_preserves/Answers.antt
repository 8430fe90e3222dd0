use Rattle.edit_laws.proofs.TakeOut.{erase_op_preserves}
use Rattle.edit_laws.proofs.laws.erase_op_preserves.Goals as goal

pub returns : goal.returns
returns c = erase_op_preserves
