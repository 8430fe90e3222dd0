use Rattle.aggregate_acceptance.proofs.AcceptedLowered.{joins_accepted}
use Rattle.aggregate_acceptance.proofs.laws.lowered_designs_are_accepted.Goals as goal

pub returns : goal.returns
returns c = joins_accepted
