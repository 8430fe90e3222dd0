-- The designs whose export behaves as they do: sound ones on integers, as the verifier accepts them.
use Rattle.std.specs.Prelude.{◌≡◌, ℕ, Bool, ◌+◌, ◌<◌, ◌≤◌, ◌^◌, true, false, ◌||◌, List, [], ◌∷◌, length, Some, slice_get}
use Rattle.hw_model.specs.Types.{Name, width}
use Rattle.hw_model.specs.Types.HwType.{clock}
use Rattle.hw_model.specs.Design.{Ref, Port, OpResult, Op, Module, Design, is_instance, is_output_op}
use Rattle.hw_model.specs.Design.Ref.{port}
use Rattle.hw_model.specs.Flat.{Register, register_in}
use Rattle.hw_model.specs.Hierarchy.{HasNoRecursion}
use Rattle.hw_model.specs.Meaning.{HasNoCycle}
use Rattle.hw_model.specs.Resets.{ResetsFromPorts}
use Rattle.hw_model.specs.Sound.{Sound, type_in}
use Rattle.verilog_expr.specs.Expressions.{value_width}
use Rattle.verilog_expr.specs.Values.{is_aggregate_kind, is_variadic, is_division, IsDivision}
use Rattle.export_verilog.specs.Identifiers.{module_identifiers}

-- the bits of each result are one or more
abbrev pub HaveSomeBits : List OpResult → Type 0
HaveSomeBits rs = (k : ℕ) (r : OpResult) → slice_get rs k ≡ Some r → 1 ≤ width r.type

-- a register's clock is an input port
pub record IsClocked (ports : List Port) (r : Register) : Type 0 where
  pub number : ℕ
  pub clock : Port
  pub is_port : r.clock ≡ port number
  pub there : slice_get ports number ≡ Some clock
  pub input : clock.is_output ≡ false

-- an operation of a body on integers
pub record IsExportableOp (ports : List Port) (os : List Op) (o : Op) : Type 0 where
  pub integers : is_aggregate_kind o.kind ≡ false
  -- an instance has as many results as its module has outputs, a module's output none, every other operation one
  pub one_result : (is_instance o || is_output_op o) ≡ false → (r : OpResult) × (o.results ≡ r ∷ [])
  pub no_result : is_output_op o ≡ true → o.results ≡ []
  pub bits : HaveSomeBits o.results
  pub filled : is_variadic o.kind ≡ true → 1 ≤ length o.operands
  pub division : is_division o.kind ≡ true → IsDivision os o
  pub clocked : (r : Register) → register_in o ≡ Some r → IsClocked ports r

-- a module on integers
pub record IsExportableModule (m : Module) : Type 0 where
  pub ops : (i : ℕ) (o : Op) → slice_get m.body i ≡ Some o → IsExportableOp m.ports m.body o
  pub bits : (j : ℕ) (p : Port) → slice_get m.ports j ≡ Some p → 1 ≤ width p.type
  -- widths are numbers of a machine
  pub narrow : (r : Ref) → value_width m.ports m.body r < 2 ^ 64
  pub narrow_ports : (j : ℕ) (p : Port) → slice_get m.ports j ≡ Some p → width p.type < 2 ^ 64
  -- a clock is an input port: no operation gives one
  pub clocks : (r : Ref) → type_in m.ports m.body r ≡ Some clock → (j : ℕ) × (r ≡ port j)
  -- names are told apart by numbers of a machine
  pub room : length (module_identifiers m) + 130 < 2 ^ 64

-- a design on integers that is sound, with distinct symbols, no module within itself, no net that depends on itself, and
-- asynchronous resets that come from input ports
pub record IsExportable (d : Design) : Type 0 where
  pub sound : Sound d
  pub distinct : (i j : ℕ) (m n : Module) → slice_get d i ≡ Some m → slice_get d j ≡ Some n → m.symbol ≡ n.symbol → i ≡ j
  pub finite : HasNoRecursion d
  pub acyclic : (top : Name) → HasNoCycle d top
  pub modules : (n : ℕ) (m : Module) → slice_get d n ≡ Some m → IsExportableModule m
  pub room : length d + 130 < 2 ^ 64
  -- asynchronous resets come from input ports that have a mark, and reset to constants
  pub marked : Module → ℕ → Bool
  pub resets : ResetsFromPorts d marked
