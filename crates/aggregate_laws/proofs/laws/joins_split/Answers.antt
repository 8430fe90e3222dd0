use Rattle.aggregate_laws.proofs.Joins.{wire_splits, struct_create_splits, array_create_splits, array_concat_splits}
use Rattle.aggregate_laws.proofs.laws.joins_split.Goals as goal

pub returns-clause-wire : goal.returns-clause-wire
returns-clause-wire c = wire_splits

pub returns-clause-struct_create : goal.returns-clause-struct_create
returns-clause-struct_create c = struct_create_splits

pub returns-clause-array_create : goal.returns-clause-array_create
returns-clause-array_create c = array_create_splits

pub returns-clause-array_concat : goal.returns-clause-array_concat
returns-clause-array_concat c = array_concat_splits
