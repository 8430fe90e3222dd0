use Rattle.edit_laws.proofs.ChangeInPlace.{replace_op_preserves}
use Rattle.edit_laws.proofs.laws.replace_op_preserves.Goals as goal

pub returns : goal.returns
returns c = replace_op_preserves
