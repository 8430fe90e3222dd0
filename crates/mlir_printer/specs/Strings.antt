-- How names and strings are printed (MLIR language reference: lexical conventions; escapes as its string literals have them).
use Rattle.std.specs.Prelude.{ℕ, ◌+◌, ◌/◌, ◌%◌, Bool, false, cond, ◌&&◌, ◌==◌, not, nat_le, nat_lt, List, [], ◌∷◌, ◌++◌, length, map}
use Rattle.hw_model.specs.Types.{Name}
use Rattle.mlir_lexer.specs.Classes.{is_digit, is_name_start, is_name_byte, is_suffix_byte}
use Rattle.mlir_lexer.specs.Runs.{run}

-- ---- strings

-- a byte that stands for itself in a string: 20 to 7E in hex but for `"` and `\`
abbrev pub is_plain : ℕ → Bool
is_plain b = nat_le 32 b && (nat_le b 126 && (not (b == 34) && not (b == 92)))

-- a hex digit, in capitals
abbrev pub hex_digit : ℕ → ℕ
hex_digit n = cond (nat_lt n 10) (48 + n) (55 + n)

-- a byte of a string: itself, `\\`, or a backslash and two hex digits
unfoldable pub escaped_byte : ℕ → List ℕ
escaped_byte b = cond (is_plain b) (b ∷ []) (cond (b == 92) (92 ∷ 92 ∷ []) (92 ∷ hex_digit (b / 16) ∷ hex_digit (b % 16) ∷ []))

-- the bytes of a string
abbrev pub escaped_bytes : List ℕ → List ℕ
escaped_bytes [] = []
escaped_bytes (b ∷ bs) = escaped_byte b ++ escaped_bytes bs

-- a string in its quotes
unfoldable pub string_bytes : List ℕ → List ℕ
string_bytes text = (34 ∷ []) ++ (escaped_bytes text ++ (34 ∷ []))

-- ---- names

-- whether a name is a bare identifier
abbrev pub is_bare : Name → Bool
is_bare [] = false
is_bare (b ∷ bs) = is_name_start b && run is_name_byte bs == length bs

-- a name: a bare identifier as it is, another one as a string
unfoldable pub name_bytes : Name → List ℕ
name_bytes name = cond (is_bare name) name (string_bytes name)

-- a symbol
unfoldable pub symbol_bytes : Name → List ℕ
symbol_bytes name = (64 ∷ []) ++ name_bytes name

-- ---- names of values

-- whether a name may stand after `%`, and is not digits alone: a suffix-id that begins with no digit
abbrev pub stands : Name → Bool
stands [] = false
stands (b ∷ bs) = not (is_digit b) && run is_suffix_byte (b ∷ bs) == length (b ∷ bs)

-- a byte of a value's name
abbrev pub suffix_byte : ℕ → ℕ
suffix_byte b = cond (is_suffix_byte b) b 95

-- a value's name: one that may not stand gets `_` in the place of each other byte, and one `_` before it
unfoldable pub standing : Name → Name
standing name = cond (stands name) name (95 ∷ map suffix_byte name)
