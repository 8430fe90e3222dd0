use Rattle.aggregate_lower.proofs.LoweringLaw.{lowering_is_after, none_left}
use Rattle.aggregate_lower.proofs.laws.lowering_keeps.Goals as goal

pub returns-clause-law : goal.returns-clause-law
returns-clause-law c = lowering_is_after

pub returns-clause-none_left : goal.returns-clause-none_left
returns-clause-none_left c = none_left
