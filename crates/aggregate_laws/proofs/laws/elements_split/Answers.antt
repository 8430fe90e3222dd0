use Rattle.aggregate_laws.proofs.Gets.{get_splits, slice_splits}
use Rattle.aggregate_laws.proofs.Injects.{inject_splits}
use Rattle.aggregate_laws.proofs.laws.elements_split.Goals as goal

pub returns-clause-get : goal.returns-clause-get
returns-clause-get c = get_splits

pub returns-clause-slice : goal.returns-clause-slice
returns-clause-slice c = slice_splits

pub returns-clause-inject : goal.returns-clause-inject
returns-clause-inject c = inject_splits
