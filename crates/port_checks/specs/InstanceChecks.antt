-- Why an instance is refused by the module that it names (CIRCT: HW dialect, `hw.instance`).
use Rattle.std.specs.Prelude.{Bool, true, false, cond, not, ◌&&◌, List, [], ◌∷◌, take, drop, length, Option, Some, None}
use Rattle.std.specs.Cmp.Lexicographic.{pointwise}
use Rattle.diag.specs.declared.cause.Cause.{Cause}
use Rattle.diag.specs.declared.cause.Cause.TheVariants.{UnknownModule, InstancePorts}
use Rattle.hw_model.specs.Types.{Name, HwType}
use Rattle.hw_model.specs.Kinds.{Instance}
use Rattle.hw_model.specs.Design.{Port, Module, Design, same_name, find_module}
use Rattle.hw_model.specs.Sound.{input_types, output_types}
use Rattle.hw_model.specs.SameType.{same_type}
use Rattle.port_checks.specs.Answers.{when}

-- the names of a module's ports of one direction, and their types
abbrev pub port_names : Bool → List Port → List Name
port_names out [] = []
port_names true (q ∷ qs) = cond q.is_output (q.name ∷ port_names true qs) (port_names true qs)
port_names false (q ∷ qs) = cond q.is_output (port_names false qs) (q.name ∷ port_names false qs)

abbrev pub port_types : Bool → List Port → List HwType
port_types true qs = output_types qs
port_types false qs = input_types qs

-- whether an instance names a module's ports, in order and with their types: first the inputs, then the outputs
abbrev pub names_ports : Instance → List HwType → List Port → Bool
names_ports i ts ports =
    (pointwise same_name i.inputs (port_names false ports) && pointwise same_name i.outputs (port_names true ports))
    && (pointwise same_type (take (length i.inputs) ts) (port_types false ports) && pointwise same_type (drop (length i.inputs) ts) (port_types true ports))

abbrev pub call_cause : Instance → List HwType → Option Module → Option Cause
call_cause i ts None = Some UnknownModule
call_cause i ts (Some c) = when (not (names_ports i ts c.ports)) InstancePorts

-- why an instance is refused by the module that it names
abbrev pub instance_cause : Design → List HwType → Option Instance → Option Cause
instance_cause d ts None = None
instance_cause d ts (Some i) = call_cause i ts (find_module d i.symbol)
