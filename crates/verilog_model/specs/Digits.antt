-- Numerals as they are printed (IEEE 1364-2005, 3.5.1: integer constants).
use Rattle.std.specs.Prelude.{ℕ, zero, suc, Bool, ◌+◌, ◌-◌, ◌/◌, ◌%◌, cond, ◌==◌, nat_lt, [], ◌∷◌, ◌++◌, Option, Some, None, decimal}
use Rattle.verilog_model.specs.Tree.{Numeral, Expr}
use Rattle.verilog_model.specs.Tree.Expr.{literal}

-- the hexadecimal digit of a number below 16, a capital letter from ten on
abbrev pub hex_byte : ℕ → ℕ
hex_byte n = cond (nat_lt n 10) (48 + n) (55 + n)

-- the digits of a number that has at most so many, without leading zeros
abbrev pub hex_digits : ℕ → ℕ → Numeral
hex_digits zero n = []
hex_digits (suc k) n = cond (nat_lt n 16) (hex_byte n ∷ []) (hex_digits k (n / 16) ++ hex_byte (n % 16) ∷ [])

-- the hexadecimal digits of a number
unfoldable pub hex : ℕ → Numeral
hex n = hex_digits (suc n) n

-- the highest bit of w bits, which a range names; one bit has no range
abbrev pub high_of : ℕ → Option Numeral
high_of w = cond (w == 1) None (Some (decimal (w - 1)))

-- the literal of a number in w bits
abbrev pub literal_of : ℕ → Bool → ℕ → Expr
literal_of w is_signed n = literal (decimal w) is_signed (hex n)
