-- What the text of a design says: its modules with the names of values chosen.
use Rattle.std.specs.Prelude.{ℕ, Bool, true, cond, List, [], ◌∷◌, length, map, drop, Option, Some, None, codes}
use Rattle.hw_model.specs.Types.{Name, HwType}
use Rattle.hw_model.specs.Kinds.{Kind, Reset}
use Rattle.hw_model.specs.Kinds.Reset.{no_reset, sync_reset}
use Rattle.hw_model.specs.Kinds.StructOp.{struct_extract, struct_inject}
use Rattle.hw_model.specs.Kinds.Kind.{icmp, extract, constant, aggregate_constant, on_struct, instance, register, async_firreg}
use Rattle.hw_model.specs.Opcodes.{opcode_of}
use Rattle.hw_model.specs.Design.{Entry, Ref, Port, Op, Module, Design, same_name}
use Rattle.hw_model.specs.Design.Attribute.{text_value}
use Rattle.ir_store.specs.OperationViews.{OpParts}
use Rattle.ir_store.specs.Designs.{StoredModule, numbered_module}
use Rattle.mlir_operations.specs.ElementText.{InherentAttributes}
use Rattle.mlir_operations.specs.ElementText.InherentAttributes.{nothing, with_reset, with_async_reset, predicate, position, number, literals, field_name, child}
use Rattle.mlir_reader.specs.Resolving.{put_entry}
use Rattle.printing_laws.specs.Parts.{parts_in}
use Rattle.printing_laws.specs.Numbers.{shown_by_first, shown_literals}
use Rattle.mlir_printer.specs.Naming.{input_count, names_given, first_name, value_named, results_named}
use Rattle.printing_laws.specs.NameHints.{name_count, port_name_hint}
use Rattle.mlir_printer.specs.Modules.{PortText, ModuleText, modules_bytes, file_bytes}
use Rattle.mlir_printer.specs.Elements.{ValueText, Pending}
use Rattle.mlir_printer.specs.Operations.{OperationText}

-- ---- operations

-- what a reset says
abbrev pub reset_inherent : Reset → InherentAttributes
reset_inherent no_reset = nothing
reset_inherent sync_reset = with_reset

-- what a kind says besides operands and types, of operations with these types; constants are shown signed
unfoldable pub inherent_shown : Kind → List HwType → InherentAttributes
inherent_shown (icmp p) ts = predicate p
inherent_shown (extract low) ts = position low
inherent_shown (constant z) ts = number (shown_by_first ts z)
inherent_shown (aggregate_constant ls) ts = literals (shown_literals ls)
inherent_shown (on_struct (struct_extract name)) ts = field_name name
inherent_shown (on_struct (struct_inject name)) ts = field_name name
inherent_shown (instance i) ts = child i
inherent_shown (register f r) ts = reset_inherent r
inherent_shown async_firreg ts = with_async_reset
inherent_shown _ ts = nothing

-- the entry that gives an operation its name
abbrev pub name_entry : Name → Entry
name_entry name = record { key = codes "name"; value = text_value name }

-- entries with that entry among them, by the bytes of keys
abbrev pub named_entries : Name → List Entry → List Entry
named_entries name es = put_entry (name_entry name) es

-- whether an operation has no own name, or its value is called so
abbrev pub names_itself : Name → Name → Bool
names_itself [] printed = true
names_itself (b ∷ bs) printed = same_name (b ∷ bs) printed

-- an operation's entries, with its name among them where it has one and its value is called otherwise
abbrev pub entries_shown : Name → Name → List Entry → List Entry
entries_shown own printed es = cond (names_itself own printed) es (named_entries own es)

-- what stands after an operation's name
abbrev pub pending_shown : OpParts → List ValueText → Pending
pending_shown p os = record { operands = os; types = p.types; inherent = inherent_shown p.kind p.types }

-- an operation with its operands named so, where the names of its results begin so
abbrev pub operation_shown : OpParts → List ValueText → List Name → OperationText
operation_shown p os ns = record {
  results = results_named p ns;
  name = opcode_of p.kind;
  bin = p.bin;
  pending = pending_shown p os;
  dictionary = entries_shown p.name (first_name ns) p.dictionary;
}

-- operations, where values are named so and the names of results begin so
abbrev pub operations_shown : (Ref → ValueText) → List Name → List Op → List OperationText
operations_shown means ns [] = []
operations_shown means ns (o ∷ os) =
    operation_shown (parts_in o) (map means o.operands) ns ∷ operations_shown means (drop (name_count (parts_in o)) ns) os

-- ---- modules

-- the value of an input port; an output has none
abbrev pub value_shown : Port → List Name → Option Name
value_shown p ns = cond p.is_output None (Some (first_name ns))

-- a port, where the names begin so
abbrev pub port_shown : List Name → Port → PortText
port_shown ns p = record { value = value_shown p ns; name = p.name; type = p.type }

-- ports, where the names begin so
abbrev pub ports_shown : List Name → List Port → List PortText
ports_shown ns [] = []
ports_shown ns (p ∷ ps) =
    port_shown ns p ∷ ports_shown (drop (length (port_name_hint p)) ns) ps

-- a module where the names are given
abbrev pub module_named : List Name → Module → ModuleText
module_named ns m = record {
  symbol = m.symbol;
  is_private = m.is_private;
  ports = ports_shown ns m.ports;
  dictionary = m.dictionary;
  operations = operations_shown (value_named ns m.ports (map parts_in m.body)) (drop (input_count m.ports) ns) m.body;
}

-- what the text of a module says
abbrev pub module_shown : Module → ModuleText
module_shown m = module_named (names_given m.ports (map parts_in m.body)) m

-- what the text of a design says
abbrev pub modules_shown : Design → List ModuleText
modules_shown d = map module_shown d

-- the text of stored modules, one after another
unfoldable pub stored_bytes : List StoredModule → List ℕ
stored_bytes ms = modules_bytes (modules_shown (map numbered_module ms))

-- the text of a design
unfoldable pub ir_text : Design → List ℕ
ir_text d = file_bytes (modules_shown d)
