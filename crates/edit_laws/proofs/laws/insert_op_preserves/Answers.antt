use Rattle.edit_laws.proofs.Inserted.{insert_op_preserves}
use Rattle.edit_laws.proofs.laws.insert_op_preserves.Goals as goal

pub returns : goal.returns
returns c = insert_op_preserves
