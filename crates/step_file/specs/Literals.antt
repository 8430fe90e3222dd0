-- Literals of a step file: `W'hH` (IEEE 1364-2005, 3.5.1: integer constants), the width a decimal numeral without a
-- leading zero, of any size, and its value a hexadecimal numeral that the width has room for.
use Rattle.std.specs.Prelude.{ℕ, Bool, false, cond, not, ◌==◌, ◌&&◌, ◌+◌, ◌^◌, nat_lt, List, [], ◌∷◌, take, drop, Option, Some, None, is_some}
use Rattle.bits_core.specs.Word.{Word, bits}
use Rattle.verilog_model.specs.Tree.{Numeral}
use Rattle.verilog_model.specs.Numerals.{decimal_number, hex_number, is_decimal, is_hex}

-- a literal: its width and its value
pub record Literal : Type 0 where
  pub width : ℕ
  pub value : ℕ

-- the numeral begins with 0
abbrev pub begins_zero : Numeral → Bool
begins_zero [] = false
begins_zero (b ∷ bs) = b == 48

-- the width of a literal: a decimal numeral without a leading zero
abbrev pub is_width : Numeral → Bool
is_width w = not (begins_zero w) && is_decimal w

-- the literal of a width and of hexadecimal digits, where the width has room for their number
unfoldable pub literal_by : Numeral → Numeral → Option Literal
literal_by w h = cond (is_width w && (is_hex h && nat_lt (hex_number h) (2 ^ decimal_number w))) (Some (record { width = decimal_number w; value = hex_number h })) None

-- the literal of a width and of what stands behind it from its apostrophe on: the letter h, and digits
abbrev pub literal_at : Numeral → List ℕ → Option Literal
literal_at w [] = None
literal_at w (q ∷ []) = None
literal_at w (q ∷ b ∷ h) = cond (b == 104) (literal_by w h) None

-- how many bytes stand before the first apostrophe, or in all
abbrev pub width_length : List ℕ → ℕ
width_length [] = 0
width_length (b ∷ bs) = cond (b == 39) 0 (width_length bs + 1)

-- the literal that a word writes: its width stands before the first apostrophe
unfoldable pub literal_of : List ℕ → Option Literal
literal_of word = literal_at (take (width_length word) word) (drop (width_length word) word)

-- the word is a literal
abbrev pub is_literal : List ℕ → Bool
is_literal word = is_some (literal_of word)

-- the bits of a literal, where it has so many
abbrev pub bits_in : ℕ → Option Literal → Option Word
bits_in n None = None
bits_in n (Some l) = cond (l.width == n) (Some (bits n l.value)) None

-- the bits of the literal that a word writes, where it has so many
abbrev pub word_in : ℕ → List ℕ → Option Word
word_in n word = bits_in n (literal_of word)
