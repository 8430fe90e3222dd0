-- Reset ports: the input ports from which registers of a design are reset without their clocks, whether a register names
-- the port itself or an instance hands it on (CIRCT: Seq dialect, `seq.firreg` with an asynchronous reset; HW dialect,
-- `hw.instance`).
use Rattle.std.specs.Prelude.{◌≡◌, ℕ, zero, suc, Bool, false, not, ◌&&◌, ◌||◌, nat_eq, List, map, length, Option, Some, None, is_some, slice_get, option_map}
use Rattle.std.specs.List.{list_any}
use Rattle.wiring.specs.Lists.{total}
use Rattle.wiring.specs.Wiring.{In}
use Rattle.hw_model.specs.Types.{HwType}
use Rattle.hw_model.specs.Types.HwType.{int}
use Rattle.hw_model.specs.Design.{Ref, Port, Op, Module, Design, instance_in, callee}
use Rattle.hw_model.specs.Design.Ref.{port}
use Rattle.hw_model.specs.Flat.{ResetBy, async_reset_in, port_ref}
use Rattle.port_checks.specs.InstanceChecks.{instance_cause}

-- ---- the set

-- port j of a module is an input of type i1
pub record IsBitInput (m : Module) (j : ℕ) : Type 0 where
  pub port_there : Port
  pub there : slice_get m.ports j ≡ Some port_there
  pub is_input : port_there.is_output ≡ false
  pub is_bit : port_there.type ≡ int 1

-- the reset ports of modules, the least set: an i1 input is one where a register with an asynchronous reset names it, or
-- where an instance that its module does not refuse joins it to a reset port
pub data IsResetPort (d : Design) : Module → ℕ → Type 0 where
  named : (m : Module) (j : ℕ) (o : Op) (r : ResetBy) → IsBitInput m j → In o m.body → async_reset_in o ≡ Some r → r.signal ≡ port j
      → IsResetPort d m j
  joined : (m : Module) (j : ℕ) (o : Op) (c : Module) (k : ℕ) → IsBitInput m j → In o m.body → callee d o ≡ Some c
      → instance_cause d o.types (instance_in o.kind) ≡ None → IsResetPort d c k → port_ref c.ports o.operands k ≡ Some (port j)
      → IsResetPort d m j

-- ---- its decision

-- whether a type is i1
abbrev pub is_bit_type : HwType → Bool
is_bit_type (int w) = nat_eq w 1
is_bit_type _ = false

-- whether a port is an input of type i1
abbrev pub is_bit_input : Option Port → Bool
is_bit_input None = false
is_bit_input (Some q) = not q.is_output && is_bit_type q.type

-- whether a value is port j
abbrev pub is_port : ℕ → Option Ref → Bool
is_port j (Some (port k)) = nat_eq k j
is_port j _ = false

-- whether an operation is a register that port j resets without its clock
abbrev pub names_port : ℕ → Op → Bool
names_port j o = is_port j (option_map (λ (r : ResetBy). r.signal) (async_reset_in o))

-- whether one of the first n ports of a module has a mark and is joined to port j by these operands
abbrev pub joins_below : (ℕ → Bool) → List Port → List Ref → ℕ → ℕ → Bool
joins_below marked ports operands j zero = false
joins_below marked ports operands j (suc n) =
    (marked n && is_port j (port_ref ports operands n)) || joins_below marked ports operands j n

-- whether an operation is an instance that joins port j to a marked port of its module
abbrev pub joins_marked : (Module → ℕ → Bool) → ℕ → Op → Option Module → Bool
joins_marked marked j o None = false
joins_marked marked j o (Some c) = joins_below (marked c) c.ports o.operands j (length c.ports)

-- whether an operation makes port j a reset port, where marked ports are known to be some
abbrev pub makes_reset : Design → (Module → ℕ → Bool) → ℕ → Op → Bool
makes_reset d marked j o =
    names_port j o || (not (is_some (instance_cause d o.types (instance_in o.kind))) && joins_marked marked j o (callee d o))

-- whether a port is a reset port by a chain of fewer than n instances
abbrev pub is_reset_within : ℕ → Design → Module → ℕ → Bool
is_reset_within zero d m j = false
is_reset_within (suc n) d m j = is_bit_input (slice_get m.ports j) && list_any (makes_reset d (is_reset_within n d) j) m.body

-- how many ports the modules of a design have
abbrev pub port_count : Design → ℕ
port_count d = total (map (λ (m : Module). length m.ports) d)

-- whether a port is a reset port: by a chain of at most as many instances as the design has ports, since a shortest chain
-- has no port twice after its first (modules may be within themselves here, so their number bounds no chain)
abbrev pub is_reset_port : Design → Module → ℕ → Bool
is_reset_port d m j = is_reset_within (suc (port_count d)) d m j
