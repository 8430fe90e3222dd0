-- How many gates the gate list of an operation may take.
use Rattle.std.specs.Prelude.{ℕ, ◌+◌, ◌-◌, ◌*◌, List, [], ◌∷◌, length}
use Rattle.hw_model.specs.Kinds.{Kind, Variadic}
use Rattle.hw_model.specs.Kinds.Variadic.{add, mul, and, or, xor}
use Rattle.hw_model.specs.Kinds.Kind.{variadic, sub, division, shift, icmp, parity, mux}

-- for each operand after the first one, of w bits
abbrev pub pair_price : Variadic → ℕ → ℕ
pair_price add w = 12 * w
pair_price mul w = 13 * (w * w)
pair_price and w = w
pair_price or w = w
pair_price xor w = 3 * w

-- the first width; 0 where there is none
abbrev pub first_width : List ℕ → ℕ
first_width [] = 0
first_width (n ∷ ns) = n

-- with a result of w bits and operands of these widths
abbrev pub price : Kind → ℕ → List ℕ → ℕ
price (variadic v) w ns = pair_price v w * (length ns - 1)
price sub w ns = 12 * w
price (division d) w ns = 16 * (w * w) + 64 * w
price (shift s) w ns = 32 * w
price (icmp p) w ns = 12 * first_width ns + 3
price parity w ns = 3 * first_width ns
price mux w ns = 3 * w
price _ w ns = 0
