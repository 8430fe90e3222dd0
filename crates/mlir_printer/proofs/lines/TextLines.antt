-- The text of a design is whole lines, of which none begins with `/`.
use Rattle.std.proofs.Common.{Bool, true, false, cond, List, [], ◌∷◌, length, drop, map, Option, Some, None, refl}
use Rattle.std.specs.Prelude.{codes}
use Rattle.hw_model.specs.Types.{Name, HwType}
use Rattle.hw_model.specs.Design.{Port, Module, Design, same_name}
use Rattle.printing_laws.specs.NameHints.{port_name_hint}
use Rattle.printing_laws.specs.Parts.{parts_in}
use Rattle.mlir_printer.specs.Naming.{names_given, first_name, value_named, input_count}
use Rattle.mlir_printer.specs.Operations.{OperationText, operation_line, operation_lines}
use Rattle.mlir_printer.specs.Modules.{PortText, ModuleText, port_name_bytes, input_port_bytes, output_port_bytes, port_bytes_by, port_bytes, private_bytes, header_bytes, module_bytes, modules_bytes, file_bytes}
use Rattle.mlir_printer.specs.Texts.{ports_shown, module_named, modules_shown, ir_text}
use Rattle.mlir_printer.specs.Lines.{HasLines}
use Rattle.mlir_printer.proofs.lines.QuietWords.{Quiet, both, after, word, none, either, string_quiet, name_quiet, symbol_quiet, commas_quiet, Every}
use Rattle.mlir_printer.proofs.lines.QuietTypes.{type_quiet, dictionary_quiet}
use Rattle.mlir_printer.proofs.lines.QuietOperations.{IsQuietOperation, value_name_quiet, operation_quiet}
use Rattle.mlir_printer.proofs.lines.QuietNames.{given_quiet, first_name_quiet, names_left, named_quiet, operations_quiet}
use Rattle.mlir_printer.proofs.lines.WholeLines.{no_text, texts_both, line_end, tail_more, one_line}

-- ---- ports

-- a port whose value, if it has one, has a name without line feeds
abbrev IsQuietValue : Option Name → Type 0
IsQuietValue None = Unit {0}
IsQuietValue (Some v) = Quiet v

abbrev IsQuietPort : PortText → Type 0
IsQuietPort p = IsQuietValue p.value

port_name_quiet : (value name : Name) → Quiet (port_name_bytes value name)
unfolding port_name_bytes
port_name_quiet value name = either (same_name value name) none (after (codes " ") refl (string_quiet name))

input_port_quiet : (value name : Name) (t : HwType) → Quiet value → Quiet (input_port_bytes value name t)
unfolding input_port_bytes
input_port_quiet value name t h =
    after (codes "in ") refl (both (value_name_quiet value h) (both (port_name_quiet value name) (after (codes " : ") refl (type_quiet t))))

output_port_quiet : (name : Name) (t : HwType) → Quiet (output_port_bytes name t)
unfolding output_port_bytes
output_port_quiet name t = after (codes "out ") refl (both (name_quiet name) (after (codes " : ") refl (type_quiet t)))

port_quiet_by : (v : Option Name) (name : Name) (t : HwType) → IsQuietValue v → Quiet (port_bytes_by v name t)
port_quiet_by None name t h = output_port_quiet name t
port_quiet_by (Some v) name t h = input_port_quiet v name t h

ports_quiet : (ps : List PortText) → Every IsQuietPort ps → Every (λ p. Quiet (port_bytes p)) ps
ports_quiet [] h = tt
ports_quiet (p ∷ ps) h = (port_quiet_by p.value p.name p.type h.0, ports_quiet ps h.1)

-- ---- modules

-- a module whose values have names without line feeds
record IsQuietModule (m : ModuleText) : Type 0 where
  ports : Every IsQuietPort m.ports
  operations : Every IsQuietOperation m.operations

private_quiet : (b : Bool) → Quiet (private_bytes b)
unfolding private_bytes
private_quiet b = either b (word (codes "private ") refl) none

header_line : (m : ModuleText) → IsQuietModule m → HasLines (header_bytes m)
unfolding header_bytes
header_line m h =
    one_line (codes "  hw.module ") refl
    (tail_more (private_quiet m.is_private) (tail_more (symbol_quiet m.symbol) (tail_more (word (codes "(") refl) (tail_more (commas_quiet port_bytes m.ports (ports_quiet m.ports h.ports))
    (tail_more (word (codes ")") refl) (tail_more (dictionary_quiet (codes " attributes ") m.dictionary (word (codes " attributes ") refl)) (tail_more (word (codes " {") refl) line_end)))))))
    refl

one_operation : (o : OperationText) → IsQuietOperation o → HasLines (operation_line o)
unfolding operation_line
one_operation o h = one_line (codes "    ") refl (tail_more (operation_quiet o h) line_end) refl

operations_lines : (os : List OperationText) → Every IsQuietOperation os → HasLines (operation_lines os)
operations_lines [] h = no_text
operations_lines (o ∷ os) h = texts_both (one_operation o h.0) (operations_lines os h.1)

module_lines : (m : ModuleText) → IsQuietModule m → HasLines (module_bytes m)
unfolding module_bytes
module_lines m h = texts_both (header_line m h) (texts_both (operations_lines m.operations h.operations) (one_line (codes "  }") refl line_end refl))

modules_lines : (ms : List ModuleText) → Every IsQuietModule ms → HasLines (modules_bytes ms)
modules_lines [] h = no_text
modules_lines (m ∷ ms) h = texts_both (module_lines m h.0) (modules_lines ms h.1)

file_lines : (ms : List ModuleText) → Every IsQuietModule ms → HasLines (file_bytes ms)
unfolding file_bytes
file_lines ms h = texts_both (one_line (codes "module {") refl line_end refl) (texts_both (modules_lines ms h) (one_line (codes "}") refl line_end refl))

-- ---- designs

value_shown_quiet : (b : Bool) (name : Name) → Quiet name → IsQuietValue (cond b None (Some name))
value_shown_quiet true name h = tt
value_shown_quiet false name h = h

shown_ports_quiet : (ns : List Name) (ps : List Port) → Every Quiet ns → Every IsQuietPort (ports_shown ns ps)
shown_ports_quiet ns [] h = tt
shown_ports_quiet ns (p ∷ ps) h = (
  value_shown_quiet p.is_output (first_name ns) (first_name_quiet ns h),
  shown_ports_quiet (drop (length (port_name_hint p)) ns) ps (names_left (length (port_name_hint p)) ns h),
)

module_quiet : (ns : List Name) (m : Module) → Every Quiet ns → IsQuietModule (module_named ns m)
module_quiet ns m h = record {
  ports = shown_ports_quiet ns m.ports h;
  operations = operations_quiet (value_named ns m.ports (map parts_in m.body)) (named_quiet ns m.ports (map parts_in m.body) h) (drop (input_count m.ports) ns) m.body
      (names_left (input_count m.ports) ns h);
}

modules_quiet : (d : Design) → Every IsQuietModule (modules_shown d)
modules_quiet [] = tt
modules_quiet (m ∷ ms) = (module_quiet (names_given m.ports (map parts_in m.body)) m (given_quiet m.ports (map parts_in m.body)), modules_quiet ms)

pub text_has_lines : (d : Design) → HasLines (ir_text d)
unfolding ir_text
text_has_lines d = file_lines (modules_shown d) (modules_quiet d)
