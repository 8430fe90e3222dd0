use Rattle.aggregate_laws.proofs.Muxes.{mux_splits, stays_splits}
use Rattle.aggregate_laws.proofs.Constants.{constant_splits}
use Rattle.aggregate_laws.proofs.laws.leaves_split.Goals as goal

pub returns-clause-mux : goal.returns-clause-mux
returns-clause-mux c = mux_splits

pub returns-clause-constant : goal.returns-clause-constant
returns-clause-constant c = constant_splits

pub returns-clause-stays : goal.returns-clause-stays
returns-clause-stays c = stays_splits
