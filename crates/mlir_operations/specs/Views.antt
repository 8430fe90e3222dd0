-- What values of a text's parts stand for.
use Rattle.std.specs.Prelude.{map, option_map}
use Rattle.std.specs.Box.{box_value}
use Rattle.hw_model.specs.TypeViews.{type_of}
use Rattle.hw_model.specs.KindViews.{predicate_of, integer_of, literals_in, instance_of}
use Rattle.ir_store.specs.OperationViews.{types_in}
use Rattle.ir_store.specs.DictionaryViews.{entries_in}
use Rattle.mlir_operations.specs.OperandText as text
use Rattle.mlir_operations.specs.ElementText as element
use Rattle.mlir_operations.specs.OperationText as operation
use Rattle.mlir_operations.specs.ModuleText as file
use Rattle.mlir_operations.specs.declared.syntax.OperandName.{OperandName}
use Rattle.mlir_operations.specs.declared.syntax.ResultNames.{ResultNames}
use Rattle.mlir_operations.specs.declared.syntax.ResultNames.TheVariants.{Unnamed, Names, Pack}
use Rattle.mlir_operations.specs.declared.syntax.InherentAttributes.{InherentAttributes}
use Rattle.mlir_operations.specs.declared.syntax.InherentAttributes.TheVariants as inherent
use Rattle.mlir_operations.specs.declared.syntax.Gathered.{Gathered}
use Rattle.mlir_operations.specs.declared.syntax.OperationText.{OperationText}
use Rattle.mlir_operations.specs.declared.syntax.PortText.{PortText}

abbrev pub operand_of : OperandName → text.OperandName
operand_of o = record { name = o.name.now; number = o.number }

abbrev pub names_of : ResultNames → text.ResultNames
names_of Unnamed = text.ResultNames.no_names
names_of (Names n ns) = text.ResultNames.names n.now (map (λ (m : _). m.now) ns.items)
names_of (Pack n k) = text.ResultNames.pack n.now k

abbrev pub inherent_of : InherentAttributes → element.InherentAttributes
inherent_of inherent.Nothing = element.InherentAttributes.nothing
inherent_of inherent.WithReset = element.InherentAttributes.with_reset
inherent_of inherent.WithAsyncReset = element.InherentAttributes.with_async_reset
inherent_of (inherent.Predicate p) = element.InherentAttributes.predicate (predicate_of p)
inherent_of (inherent.Position n) = element.InherentAttributes.position n
inherent_of (inherent.Number z) = element.InherentAttributes.number (integer_of z)
inherent_of (inherent.Literals ls) = element.InherentAttributes.literals (literals_in ls)
inherent_of (inherent.FieldName name) = element.InherentAttributes.field_name name
inherent_of (inherent.Child i) = element.InherentAttributes.child (instance_of (box_value i))

abbrev pub gathered_of : Gathered → element.Gathered
gathered_of g = record { operands = map operand_of g.operands.items; types = types_in g.types; inherent = inherent_of g.inherent }

abbrev pub operation_of : OperationText → operation.OperationText
operation_of o = record {
  results = names_of o.results;
  name = o.name;
  bin = o.bin;
  gathered = gathered_of o.gathered;
  dictionary = entries_in o.dictionary;
  location = o.location;
}

abbrev pub port_text_of : PortText → file.PortText
port_text_of p = record { value = option_map (λ (v : _). v.now) p.value; name = p.name; type = type_of p.ty }
