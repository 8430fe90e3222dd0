use Rattle.aggregate_acceptance.proofs.WiresOut.{joins_fit, joins_follow}
use Rattle.aggregate_acceptance.proofs.LoweredWeights.{joins_light}
use Rattle.aggregate_acceptance.proofs.laws.joins_are_taken_out.Goals as goal

pub returns-clause-fit : goal.returns-clause-fit
returns-clause-fit c = joins_fit

pub returns-clause-follows : goal.returns-clause-follows
returns-clause-follows c = joins_follow

pub returns-clause-lighter : goal.returns-clause-lighter
returns-clause-lighter c = joins_light
