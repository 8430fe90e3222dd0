-- How digits are read: widths up to 2^32, and of a value the number of its bits and its number where that is below 2^128.
use Rattle.std.specs.Prelude.{ℕ, Bool, cond, ◌==◌, ◌||◌, ◌+◌, ◌-◌, ◌*◌, ◌^◌, min, nat_lt, nat_le, List, [], ◌∷◌, take, drop, Option, Some, None}
use Rattle.bits_core.specs.Word.{Word, bits}
use Rattle.verilog_model.specs.Tokens.{is_between, is_digit}
use Rattle.verilog_model.specs.Numerals.{hex_digit}
use Rattle.step_file.specs.Literals.{width_length}
use Rattle.step_file.specs.declared.literal.Value.{Value}
use Rattle.step_file.specs.declared.literal.ShortLiteral.{ShortLiteral}

-- the width with one more decimal digit, up to 2^32
abbrev pub with_decimal : ℕ → ℕ → ℕ
with_decimal w b = min (w * 10 + (b - 48)) (2 ^ 32)

-- the width with these digits behind it, if they are decimal digits
abbrev pub width_from : ℕ → List ℕ → Option ℕ
width_from w [] = Some w
width_from w (b ∷ bs) = cond (is_digit b) (width_from (with_decimal w b) bs) None

-- the width of a numeral of decimal digits that does not begin with 0
abbrev pub width_by : List ℕ → Option ℕ
width_by [] = None
width_by (b ∷ bs) = cond (b == 48) None (width_from 0 (b ∷ bs))

-- the byte is a hexadecimal digit
abbrev pub is_hex_byte : ℕ → Bool
is_hex_byte b = is_digit b || (is_between 65 70 b || is_between 97 102 b)

-- how many bits a digit has, without leading zeros
abbrev pub digit_bits : ℕ → ℕ
digit_bits d = cond (d == 0) 0 (cond (nat_lt d 2) 1 (cond (nat_lt d 4) 2 (cond (nat_lt d 8) 3 4)))

-- how many bits a value has with one more digit
abbrev pub more_bits : ℕ → ℕ → ℕ
more_bits bits d = cond (bits == 0) (digit_bits d) (bits + 4)

-- the number with one more digit, where it is kept
abbrev pub more_low : ℕ → ℕ → ℕ
more_low low d = cond (nat_lt low (2 ^ 124)) (low * 16 + d) low

-- the value with one more digit
abbrev pub with_digit : Value → ℕ → Value
with_digit v d = record { bits = more_bits v.bits d; low = more_low v.low d }

-- the value with these digits behind it, if they are hexadecimal digits
abbrev pub value_from : Value → List ℕ → Option Value
value_from v [] = Some v
value_from v (b ∷ bs) = cond (is_hex_byte b) (value_from (with_digit v (hex_digit b)) bs) None

-- the value of no digits
abbrev pub no_value : Value
no_value = record { bits = 0; low = 0 }

-- the value of one hexadecimal digit or more
abbrev pub value_by : List ℕ → Option Value
value_by [] = None
value_by (b ∷ bs) = value_from no_value (b ∷ bs)

-- a literal of a width and a value, as far as it is kept, where the width has room for the value
abbrev pub short_parts : Option ℕ → Option Value → Option ShortLiteral
short_parts None v = None
short_parts (Some w) None = None
short_parts (Some w) (Some v) = cond (nat_le v.bits w) (Some (record { width = w; value = v.low })) None

-- that of a numeral for the width and of hexadecimal digits
unfoldable pub short_by : List ℕ → List ℕ → Option ShortLiteral
short_by w h = short_parts (width_by w) (value_by h)

-- that of a numeral for the width and of what stands behind it from its apostrophe on
abbrev pub short_at : List ℕ → List ℕ → Option ShortLiteral
short_at w [] = None
short_at w (q ∷ []) = None
short_at w (q ∷ b ∷ h) = cond (b == 104) (short_by w h) None

-- that of a word
unfoldable pub short_of : List ℕ → Option ShortLiteral
short_of word = short_at (take (width_length word) word) (drop (width_length word) word)

-- the bits of a literal that is kept so, where it has so many
abbrev pub short_bits : ℕ → Option ShortLiteral → Option Word
short_bits n None = None
short_bits n (Some s) = cond (s.width == n) (Some (bits n s.value)) None
