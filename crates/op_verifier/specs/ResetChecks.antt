-- Why an asynchronous reset is refused (CIRCT, Seq dialect: `seq.firreg` with `reset async`): it is an input port of its
-- module, joined to input ports of the modules above, and what it resets to is a constant.
use Rattle.std.specs.Prelude.{ℕ, zero, suc, Bool, false, not, ◌&&◌, ◌||◌, List, length, Option, Some, None, is_some, slice_get}
use Rattle.diag.specs.declared.cause.Cause.{Cause}
use Rattle.diag.specs.declared.cause.Cause.TheVariants.{AsyncReset}
use Rattle.hw_model.specs.Design.{Ref, Port, Op, Module, Design, callee}
use Rattle.hw_model.specs.Design.Ref.{port, result, undefined}
use Rattle.hw_model.specs.Flat.{ResetBy, async_reset_in, port_ref}
use Rattle.hw_model.specs.Sound.{input_type}
use Rattle.hw_model.specs.Resets.{is_constant}
use Rattle.port_checks.specs.ResetPorts.{is_reset_port}
use Rattle.op_verifier.specs.Answers.{when}

-- ---- values

-- whether a value is an input port of a module with these ports
abbrev pub is_input_port : List Port → Ref → Bool
is_input_port ports (port j) = is_some (input_type (slice_get ports j))
is_input_port ports (result j k) = false
is_input_port ports undefined = false

-- whether what is joined to a port, where something is, is another value than such a port
abbrev pub is_no_input : List Port → Option Ref → Bool
is_no_input ports None = false
is_no_input ports (Some r) = not (is_input_port ports r)

abbrev pub is_constant_op : Option Op → Bool
is_constant_op None = false
is_constant_op (Some o) = is_constant o.kind

-- whether a value is the result of a constant of the body
abbrev pub is_constant_ref : List Op → Ref → Bool
is_constant_ref os (port j) = false
is_constant_ref os (result j k) = is_constant_op (slice_get os j)
is_constant_ref os undefined = false

-- ---- registers

-- whether an asynchronous reset is no input port of its module, or its value is no constant
abbrev pub has_other_reset : List Port → List Op → Option ResetBy → Bool
has_other_reset ports os None = false
has_other_reset ports os (Some r) = not (is_input_port ports r.signal && is_constant_ref os r.value)

-- ---- instances

-- whether one of the first n ports of an instance's module is a reset port to which the instance joins another value than
-- an input port
abbrev pub joins_other : (ℕ → Bool) → List Port → (ℕ → Option Ref) → ℕ → Bool
joins_other resets ports joined zero = false
joins_other resets ports joined (suc n) = joins_other resets ports joined n || (resets n && is_no_input ports (joined n))

-- whether an instance with these operands does so at some port of its module
abbrev pub has_other_join : Design → List Port → List Ref → Option Module → Bool
has_other_join d ports operands None = false
has_other_join d ports operands (Some c) = joins_other (is_reset_port d c) ports (port_ref c.ports operands) (length c.ports)

-- ---- an operation

-- why an operation of a body is refused for an asynchronous reset
abbrev pub reset_cause : Design → List Port → List Op → Op → Option Cause
reset_cause d ports os o = when (has_other_reset ports os (async_reset_in o) || has_other_join d ports o.operands (callee d o)) AsyncReset
