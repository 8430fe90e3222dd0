-- Strings: where one ends, and what it holds. Escapes are `\\`, `\"`, `\n`, `\t`, and a backslash before two hex digits.
use Rattle.std.specs.Prelude.{ℕ, ◌+◌, Bool, cond, ◌||◌, ◌==◌, List, [], ◌∷◌, Option, None, Some}
use Rattle.std.specs.Option.{option_map}
use Rattle.mlir_lexer.specs.Classes.{is_hex_digit}
use Rattle.mlir_lexer.specs.declared.strings.Reading.{Reading}
use Rattle.mlir_lexer.specs.declared.strings.Reading.TheVariants.{Plain, Escape, HexPair, Closed, Broken}

-- the bytes that stand for one byte after a backslash: `\`, `"`, `n`, `t`
abbrev pub is_escape_letter : ℕ → Bool
is_escape_letter b = (b == 92 || b == 34) || (b == 110 || b == 116)

-- how a string is being read once a byte is read: a quote closes it, and the end of its line or a bad escape breaks it
abbrev pub reading_after : Reading → ℕ → Reading
reading_after Plain b = cond (b == 34) Closed (cond (b == 92) Escape (cond (b == 10) Broken Plain))
reading_after Escape b = cond (is_escape_letter b) Plain (cond (is_hex_digit b) HexPair Broken)
reading_after HexPair b = cond (is_hex_digit b) Plain Broken
reading_after Closed b = Closed
reading_after Broken b = Broken

-- nothing more is read of a string that is closed or broken
abbrev pub unless_ended : Reading → Option ℕ → Option ℕ
unless_ended Closed more = Some 0
unless_ended Broken more = None
unless_ended Plain more = more
unless_ended Escape more = more
unless_ended HexPair more = more

-- how many bytes a string still has, its closing quote included; None where it has a bad escape or its line ends first
abbrev pub string_rest : Reading → List ℕ → Option ℕ
string_rest reading [] = unless_ended reading None
string_rest reading (b ∷ bs) = unless_ended reading (option_map (λ n. n + 1) (string_rest (reading_after reading b) bs))

-- how many bytes a string has after its opening quote
abbrev pub string_length : List ℕ → Option ℕ
string_length bytes = string_rest Plain bytes
