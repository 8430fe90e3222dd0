use Rattle.aggregate_laws.proofs.Bitcasts.{bitcast_splits}
use Rattle.aggregate_laws.proofs.laws.bitcasts_split.Goals as goal

pub returns : goal.returns
returns c = bitcast_splits
