-- What is known of two modules before a copy of any is made.
use Rattle.std.specs.Prelude.{◌≡◌, ℕ, ◌+◌, ◌*◌, ◌≤◌, List, map, Some, slice_get}
use Rattle.wiring.specs.Lists.{total}
use Rattle.hw_model.specs.Types.{width}
use Rattle.hw_model.specs.Design.{Port, Module, Design}
use Rattle.hw_model.specs.Sound.{output_types}
use Rattle.miter_blast.specs.Building.{most_gates}
use Rattle.miter_blast.specs.Comparable.{register_widths}

-- what modules with registers of these widths and these ports take at least: 3 for each bit of a register of both, and 4 for
-- each bit of an output or of a register
abbrev pub least_price : List ℕ → List Port → ℕ
least_price ws ps = 10 * total ws + 4 * total (map width (output_types ps))

-- the registers of the modules of these numbers have the same widths, leaf by leaf
abbrev pub HoldAlike : Design → Design → ℕ → ℕ → Type 0
HoldAlike d e i j = (m n : Module) → slice_get d i ≡ Some m → slice_get e j ≡ Some n → register_widths d m.symbol ≡ register_widths e n.symbol

-- so they have, and registers and outputs alone take no more gates than a comparison may
pub record IsLight (d e : Design) (i j : ℕ) : Type 0 where
  pub held : HoldAlike d e i j
  pub few : (m : Module) → slice_get d i ≡ Some m → least_price (register_widths d m.symbol) m.ports ≤ most_gates
