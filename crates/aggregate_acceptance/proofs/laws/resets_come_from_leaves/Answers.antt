use Rattle.aggregate_acceptance.proofs.LoweredFit.{lowered_resets}
use Rattle.aggregate_acceptance.proofs.laws.resets_come_from_leaves.Goals as goal

pub returns : goal.returns
returns c = lowered_resets
