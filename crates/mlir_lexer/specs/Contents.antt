-- What names and strings hold. Escapes are `\\`, `\"`, `\n`, `\t`, and a backslash before two hex digits.
use Rattle.std.specs.Prelude.{ℕ, ◌+◌, ◌-◌, ◌*◌, ◌&&◌, cond, ◌==◌, nat_le, List, [], ◌∷◌, take, drop, length, ◌≡◌, ◌++◌, Option, None, Some}
use Rattle.mlir_lexer.specs.Classes.{is_digit, is_hex_digit}
use Rattle.mlir_lexer.specs.declared.contents.Pending.{Pending}
use Rattle.mlir_lexer.specs.declared.contents.Pending.TheVariants.{Nothing, Backslash, HighDigit}
use Rattle.mlir_lexer.specs.declared.token.TokenKind.{TokenKind}
use Rattle.mlir_lexer.specs.declared.token.TokenKind.TheVariants as kind

-- the value of a hex digit, in either case
abbrev pub hex_value : ℕ → ℕ
hex_value b = cond (is_digit b) (b - 48) (cond (nat_le 97 b && nat_le b 102) (b - 87) (cond (nat_le 65 b && nat_le b 70) (b - 55) 0))

-- what a byte after a backslash stands for: `n` for LF, `t` for a tab, `\` and `"` for themselves
abbrev pub unescape_byte : ℕ → ℕ
unescape_byte b = cond (b == 110) 10 (cond (b == 116) 9 b)

-- the bytes that a string's body stands for, where something is pending before it
abbrev pub decode : Pending → List ℕ → List ℕ
decode pending [] = []
decode Nothing (b ∷ bs) = cond (b == 92) (decode Backslash bs) (b ∷ decode Nothing bs)
decode Backslash (b ∷ bs) = cond (is_hex_digit b) (decode (HighDigit b) bs) (unescape_byte b ∷ decode Nothing bs)
decode (HighDigit high) (b ∷ bs) = (hex_value high * 16 + hex_value b) ∷ decode Nothing bs

-- the bytes that a string's body, the bytes between its quotes, stands for
abbrev pub unescape : List ℕ → List ℕ
unescape body = decode Nothing body

-- what stands between the quotes of a string whose opening quote is the last of the first `before` bytes
abbrev pub body_of : ℕ → List ℕ → List ℕ
body_of before text = take (length text - (before + 1)) (drop before text)

-- what a token's bytes hold: a string's content, a name without its sign, else the bytes themselves
abbrev pub content_of : TokenKind → List ℕ → List ℕ
content_of kind.StringLiteral text = unescape (body_of 1 text)
content_of kind.SymbolString text = unescape (body_of 2 text)
content_of kind.ValueName text = drop 1 text
content_of kind.SymbolName text = drop 1 text
content_of kind.ResultNumber text = drop 1 text
content_of kind.AttributeAlias text = drop 1 text
content_of kind.TypeName text = drop 1 text
content_of _ text = text

-- one byte of a body: what is pending after it, and the byte that is whole by then
abbrev pub Turns : Pending → ℕ → Pending → Option ℕ → Type 0
Turns pending b next None = (bs : List ℕ) → decode pending (b ∷ bs) ≡ decode next bs
Turns pending b next (Some value) = (bs : List ℕ) → decode pending (b ∷ bs) ≡ value ∷ decode next bs

-- a text gets a prefix of these bytes at its end
abbrev pub GetsPrefix : List ℕ → List ℕ → List ℕ → Type 0
GetsPrefix before after bytes = (prefix rest : List ℕ) × (bytes ≡ prefix ++ rest) × (after ≡ before ++ prefix)
