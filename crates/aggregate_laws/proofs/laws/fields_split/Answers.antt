use Rattle.aggregate_laws.proofs.Structs.{struct_extract_splits, struct_inject_splits, struct_explode_splits}
use Rattle.aggregate_laws.proofs.laws.fields_split.Goals as goal

pub returns-clause-extract : goal.returns-clause-extract
returns-clause-extract c = struct_extract_splits

pub returns-clause-inject : goal.returns-clause-inject
returns-clause-inject c = struct_inject_splits

pub returns-clause-explode : goal.returns-clause-explode
returns-clause-explode c = struct_explode_splits
