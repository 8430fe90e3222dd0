use Rattle.edit_laws.proofs.Unused.{erase_dead_op_preserves}
use Rattle.edit_laws.proofs.laws.erase_dead_op_preserves.Goals as goal

pub returns : goal.returns
returns c = erase_dead_op_preserves
