use Rattle.aggregate_laws.proofs.Anchored.{register_splits, spread_splits}
use Rattle.aggregate_laws.proofs.laws.anchors_split.Goals as goal

pub returns-clause-registers : goal.returns-clause-registers
returns-clause-registers c = register_splits

pub returns-clause-others : goal.returns-clause-others
returns-clause-others c = spread_splits
