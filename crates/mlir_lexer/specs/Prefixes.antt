-- What the bytes of a text begin with: the end of a line, a gap, a token, or a byte that begins none. A token is the longest that its first
-- bytes allow.
use Rattle.std.specs.Prelude.{ℕ, ◌+◌, Bool, false, cond, ◌&&◌, ◌==◌, List, [], ◌∷◌, drop, Option, None, Some}
use Rattle.mlir_lexer.specs.Classes.{is_space, is_digit, is_hex_digit, is_name_start, is_name_byte, is_suffix_byte, is_line_byte}
use Rattle.mlir_lexer.specs.Runs.{run, begins}
use Rattle.mlir_lexer.specs.Strings.{string_length}
use Rattle.mlir_lexer.specs.declared.token.TokenKind.{TokenKind}
use Rattle.mlir_lexer.specs.declared.token.TokenKind.TheVariants as kind
use Rattle.mlir_lexer.specs.declared.prefixes.Prefix.{Prefix}
use Rattle.mlir_lexer.specs.declared.prefixes.Prefix.TheVariants.{LineEnd, Gap, Token, Bad}

-- the tokens of one byte
unfoldable pub mark_of : ℕ → Option TokenKind
mark_of b =
    cond (b == 44) (Some kind.Comma)
    (cond (b == 58) (Some kind.Colon)
    (cond (b == 61) (Some kind.Equals)
    (cond (b == 40) (Some kind.LeftParenthesis)
    (cond (b == 41) (Some kind.RightParenthesis)
    (cond (b == 91) (Some kind.LeftBracket)
    (cond (b == 93) (Some kind.RightBracket)
    (cond (b == 60) (Some kind.Less)
    (cond (b == 62) (Some kind.Greater)
    (cond (b == 123) (Some kind.LeftBrace)
    (cond (b == 125) (Some kind.RightBrace) None))))))))))

-- a token of one byte, or a byte that begins none
abbrev pub mark_prefix : Option TokenKind → Prefix
mark_prefix None = Bad 0
mark_prefix (Some mark) = Token mark 1

-- a suffix: a run of digits, or a run of letters, digits, `$`, `.`, `_` and `-` that begins with no digit
abbrev pub suffix_length : List ℕ → ℕ
suffix_length bytes = cond (begins is_digit bytes) (run is_digit bytes) (run is_suffix_byte bytes)

-- a token of one byte and a suffix; without one the byte begins no token
abbrev pub suffix_token : TokenKind → List ℕ → Prefix
suffix_token kind bs = cond (suffix_length bs == 0) (Bad 0) (Token kind (suffix_length bs + 1))

-- a token that ends with a string, of which `before` bytes stand before the opening quote: that quote is refused where the string is bad
abbrev pub string_token : TokenKind → ℕ → Option ℕ → Prefix
string_token kind before None = Bad before
string_token kind before (Some n) = Token kind (before + 1 + n)

-- whether the bytes begin with `x` and a hex digit
abbrev pub is_hex_mark : List ℕ → Bool
is_hex_mark [] = false
is_hex_mark (b ∷ bs) = b == 120 && begins is_hex_digit bs

-- a number is decimal, or `0x` before a hex digit
abbrev pub number_prefix : ℕ → List ℕ → Prefix
number_prefix b bs = cond (b == 48 && is_hex_mark bs) (Token kind.Integer (run is_hex_digit (drop 1 bs) + 2)) (Token kind.Integer (run is_digit bs + 1))

-- after `@`: a string or a suffix
abbrev pub symbol_prefix : List ℕ → Prefix
symbol_prefix bs = cond (begins (λ b. b == 34) bs) (string_token kind.SymbolString 1 (string_length (drop 1 bs))) (suffix_token kind.SymbolName bs)

-- after `#`: a number or a name
abbrev pub hash_prefix : List ℕ → Prefix
hash_prefix bs = cond (begins is_digit bs) (suffix_token kind.ResultNumber bs) (suffix_token kind.AttributeAlias bs)

-- after `/`: a second one begins a comment, which the line's end ends
abbrev pub slash_prefix : List ℕ → Prefix
slash_prefix bs = cond (begins (λ b. b == 47) bs) (Gap (run is_line_byte bs + 1)) (Bad 0)

-- after `-`: `>` makes an arrow
abbrev pub minus_prefix : List ℕ → Prefix
minus_prefix bs = cond (begins (λ b. b == 62) bs) (Token kind.Arrow 2) (Token kind.Minus 1)

-- after a byte that is no letter, digit or blank
unfoldable pub sign_prefix : ℕ → List ℕ → Prefix
sign_prefix b bs =
    cond (b == 37) (suffix_token kind.ValueName bs)
    (cond (b == 64) (symbol_prefix bs)
    (cond (b == 35) (hash_prefix bs)
    (cond (b == 33) (suffix_token kind.TypeName bs)
    (cond (b == 34) (string_token kind.StringLiteral 0 (string_length bs))
    (cond (b == 45) (minus_prefix bs)
    (cond (b == 47) (slash_prefix bs) (mark_prefix (mark_of b))))))))

-- what a byte and those after it begin with
unfoldable pub prefix_of : ℕ → List ℕ → Prefix
prefix_of b bs =
    cond (b == 10) LineEnd
    (cond (is_space b) (Gap (run is_space bs + 1))
    (cond (is_name_start b) (Token kind.BareName (run is_name_byte bs + 1))
    (cond (is_digit b) (number_prefix b bs) (sign_prefix b bs))))
