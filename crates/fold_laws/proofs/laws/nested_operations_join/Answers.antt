use Rattle.fold_laws.proofs.NestedConcats.{nested_concat_is_fold}
use Rattle.fold_laws.proofs.NestedExtracts.{extract_extract_is_fold}
use Rattle.fold_laws.proofs.NestedOperands.{nested_operand_is_fold}
use Rattle.fold_laws.proofs.laws.nested_operations_join.Goals as goal

pub returns-clause-nested_operand : goal.returns-clause-nested_operand
returns-clause-nested_operand c = nested_operand_is_fold

pub returns-clause-extract_extract : goal.returns-clause-extract_extract
returns-clause-extract_extract c = extract_extract_is_fold

pub returns-clause-nested_concat : goal.returns-clause-nested_concat
returns-clause-nested_concat c = nested_concat_is_fold
