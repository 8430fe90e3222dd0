use Rattle.flat_steps.proofs.SettledTables.{operations_settle}
use Rattle.flat_steps.proofs.laws.operations_settle.Goals as goal

pub returns : goal.returns
returns c = operations_settle
