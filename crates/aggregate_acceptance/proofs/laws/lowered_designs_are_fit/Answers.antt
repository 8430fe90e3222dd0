use Rattle.aggregate_acceptance.proofs.LoweredFit.{lowered_fit}
use Rattle.aggregate_acceptance.proofs.laws.lowered_designs_are_fit.Goals as goal

pub returns : goal.returns
returns c = lowered_fit
