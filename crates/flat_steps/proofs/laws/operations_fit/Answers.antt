use Rattle.flat_steps.proofs.FittingTables.{operations_fit}
use Rattle.flat_steps.proofs.laws.operations_fit.Goals as goal

pub returns : goal.returns
returns c = operations_fit
