-- A module as it is printed, where the values of its operations are found by ids.
use Rattle.std.specs.Prelude.{List, [], ◌∷◌, map, drop}
use Rattle.hw_model.specs.Types.{Name}
use Rattle.ir_store.specs.declared.operation.Value.{Value}
use Rattle.ir_store.specs.OperationViews.{OpParts}
use Rattle.ir_store.specs.BodyOps.{BodyOp}
use Rattle.ir_store.specs.Designs.{StoredModule}
use Rattle.printing_laws.specs.NameHints.{name_count}
use Rattle.mlir_printer.specs.Elements.{ValueText}
use Rattle.mlir_printer.specs.Operations.{OperationText}
use Rattle.mlir_printer.specs.Modules.{ModuleText}
use Rattle.mlir_printer.specs.Texts.{operation_shown, ports_shown}

-- operations, where values are named so and the names of results begin so
abbrev pub stored_shown : (Value → ValueText) → List Name → List BodyOp → List OperationText
stored_shown means ns [] = []
stored_shown means ns (o ∷ os) = operation_shown o.parts (map means o.operands) ns ∷ stored_shown means (drop (name_count o.parts) ns) os

-- a module without its operations, where the names are given
abbrev pub header_shown : List Name → StoredModule → ModuleText
header_shown ns m = record {
  symbol = m.symbol;
  is_private = m.is_private;
  ports = ports_shown ns m.ports;
  dictionary = m.dictionary;
  operations = [];
}

-- the parts of operations
abbrev pub parts_in_body : List BodyOp → List OpParts
parts_in_body ops = map (λ (o : BodyOp). o.parts) ops
