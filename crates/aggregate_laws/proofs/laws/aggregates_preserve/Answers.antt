use Rattle.aggregate_laws.proofs.Aggregates.{aggregates_follow}
use Rattle.aggregate_laws.proofs.laws.aggregates_preserve.Goals as goal

pub returns : goal.returns
returns c = aggregates_follow
