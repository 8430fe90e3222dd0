-- Operations whose names are marked, without what their names stood for earlier.
use Rattle.std.specs.Prelude.{Bool, List, map}
use Rattle.hw_model.specs.Design.{Op}
use Rattle.ir_store.specs.OperationViews.{location_of}
use Rattle.mlir_operations.specs.OperandText.{named_count}
use Rattle.mlir_operations.specs.OperationText.{OperationText}
use Rattle.mlir_reader.specs.Resolving.{Meanings, kind_named, resolve_operand, marked_results, own_types, own_name, kept_entries}

-- an operation whose names have these marks
abbrev pub operation_marked : Meanings → List Bool → OperationText → Op
operation_marked means found o = record {
  kind = kind_named o.name o.gathered.inherent o.gathered.types;
  operands = map (resolve_operand means) o.gathered.operands;
  types = o.gathered.types;
  results = marked_results (own_types o) found;
  named = named_count o.results;
  name = own_name o;
  dictionary = kept_entries o.name o.dictionary;
  bin = o.bin;
  location = location_of o.location;
}
