-- Names of values that are plain numbers (MLIR language reference, "Identifiers and keywords": `suffix-id ::= (digit+ | ..)`).
use Rattle.std.specs.Prelude.{ℕ, Bool, false, cond, ◌&&◌, ◌==◌, not, nat_le, ◌∷◌, length, Option, Some, None}
use Rattle.std.specs.List.{list_all}
use Rattle.hw_model.specs.Types.{Name}
use Rattle.mlir_lexer.specs.Classes.{is_digit}
use Rattle.mlir_syntax.specs.Numerals.{number_in}

-- whether there are one to nine bytes
abbrev pub is_short : Name → Bool
is_short name = nat_le 1 (length name) && nat_le (length name) 9

-- whether a zero stands before others
abbrev pub begins_with_zero : Name → Bool
begins_with_zero (a ∷ b ∷ bs) = a == 48
begins_with_zero _ = false

-- whether a name is a plain number: one to nine digits, with no zero before others
abbrev pub is_plain_number : Name → Bool
is_plain_number name = is_short name && (not (begins_with_zero name) && list_all is_digit name)

-- the number that a name is, where it is a plain one
unfoldable pub number_of : Name → Option ℕ
number_of name = cond (is_plain_number name) (Some (number_in 10 0 name)) None
