-- The numbers that numerals stand for (IEEE 1364-2005, 3.5.1: integer constants).
use Rattle.std.specs.Prelude.{ℕ, ◌+◌, ◌-◌, ◌*◌, Bool, true, false, cond, ◌&&◌, ◌||◌, nat_le, List, [], ◌∷◌}
use Rattle.verilog_model.specs.Tokens.{is_between, is_digit}
use Rattle.verilog_model.specs.Tree.{Numeral}

-- the number of the digits so far and then those of the numeral, in a base
abbrev pub number_from : (ℕ → ℕ) → ℕ → ℕ → Numeral → ℕ
number_from digit radix n [] = n
number_from digit radix n (b ∷ bs) = number_from digit radix (n * radix + digit b) bs

abbrev pub decimal_digit : ℕ → ℕ
decimal_digit b = b - 48

-- a digit, a letter from A or from a
abbrev pub hex_digit : ℕ → ℕ
hex_digit b = cond (nat_le b 57) (b - 48) (cond (nat_le b 70) (b - 55) (b - 87))

abbrev pub decimal_number : Numeral → ℕ
decimal_number bs = number_from decimal_digit 10 0 bs

abbrev pub hex_number : Numeral → ℕ
hex_number bs = number_from hex_digit 16 0 bs

abbrev pub all_bytes : (ℕ → Bool) → List ℕ → Bool
all_bytes p [] = true
all_bytes p (b ∷ bs) = p b && all_bytes p bs

abbrev pub is_nonempty : List ℕ → Bool
is_nonempty [] = false
is_nonempty (b ∷ bs) = true

-- one decimal digit or more
abbrev pub is_decimal : Numeral → Bool
is_decimal bs = is_nonempty bs && all_bytes is_digit bs

-- one hexadecimal digit or more
abbrev pub is_hex : Numeral → Bool
is_hex bs = is_nonempty bs && all_bytes (λ b. is_digit b || (is_between 65 70 b || is_between 97 102 b)) bs
