-- The designs whose text code writes, as the verifier accepts them without aggregates.
use Rattle.std.specs.Prelude.{◌≡◌, ℕ, Some, slice_get}
use Rattle.hw_model.specs.Design.{Module, Design}
use Rattle.wiring.specs.Wiring.{IsAcyclic}
use Rattle.verilog_expr.specs.Marks.{AreSmall}
use Rattle.verilog_expr.specs.Spilling.{inner_needs}
use Rattle.export_verilog.specs.Written.{AreNarrow}

-- a module whose values have at most 128 bits, and of which none needs itself through pure operations
pub record IsWritableModule (m : Module) : Type 0 where
  pub small : AreSmall m.ports m.body
  pub acyclic : IsAcyclic (inner_needs m.body)
  -- the bits of a port are a number of a machine
  pub narrow : AreNarrow m.ports

-- a design of such modules, with distinct symbols
pub record IsWritableDesign (d : Design) : Type 0 where
  pub distinct : (i j : ℕ) (m n : Module) → slice_get d i ≡ Some m → slice_get d j ≡ Some n → m.symbol ≡ n.symbol → i ≡ j
  pub modules : (n : ℕ) (m : Module) → slice_get d n ≡ Some m → IsWritableModule m
