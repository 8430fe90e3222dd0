use Rattle.aggregate_laws.proofs.Follows.{follows_lowered}
use Rattle.aggregate_laws.proofs.laws.lowering_preserves.Goals as goal

pub returns : goal.returns
returns c = follows_lowered
