-- The price of a body, operation by operation: each has that of its gate list, and a register that of its step besides.
use Rattle.std.specs.Prelude.{ℕ, ◌+◌, List, map}
use Rattle.wiring.specs.Lists.{total}
use Rattle.hw_model.specs.Design.{Port, Op}
use Rattle.flat_module_laws.specs.FlatPrices.{op_price}
use Rattle.miter_blast.specs.ComparisonPrices.{register_price}

-- the price of an operation of a body with these ports and operations
abbrev pub whole_price : List Port → List Op → Op → ℕ
whole_price ps os o = op_price ps os o + register_price o

abbrev pub body_price : List Port → List Op → ℕ
body_price ps os = total (map (whole_price ps os) os)
