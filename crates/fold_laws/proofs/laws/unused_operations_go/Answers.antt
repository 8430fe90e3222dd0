use Rattle.fold_laws.proofs.Unused.{unused_is_fold}
use Rattle.fold_laws.proofs.laws.unused_operations_go.Goals as goal

pub returns : goal.returns
returns c = unused_is_fold
