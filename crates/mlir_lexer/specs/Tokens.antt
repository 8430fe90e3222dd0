-- The tokens of a text. Each is the longest that its first bytes allow; a byte that begins none, an unclosed string and a bad escape end the
-- list with a refusal.
use Rattle.std.specs.Prelude.{◌≡◌, ℕ, zero, suc, ◌+◌, ◌-◌, ◌≤◌, List, [], ◌∷◌, take, drop, length, Option, None, Some, Result, Ok, Err, ⊤}
use Rattle.diag.specs.Location.{start_location, next_location, further, location_of}
use Rattle.diag.specs.declared.refusal.Location.{Location}
use Rattle.diag.specs.declared.refusal.Refusal.{Refusal}
use Rattle.diag.specs.declared.refusal.OpName.TheVariants as op
use Rattle.diag.specs.declared.cause.Cause.TheVariants as cause
use Rattle.mlir_lexer.specs.Cursor.{Cursor}
use Rattle.mlir_lexer.specs.Prefixes.{prefix_of}
use Rattle.mlir_lexer.specs.declared.token.TokenKind.{TokenKind}
use Rattle.mlir_lexer.specs.declared.token.Token as code
use Rattle.mlir_lexer.specs.declared.prefixes.Prefix.{Prefix}
use Rattle.mlir_lexer.specs.declared.prefixes.Prefix.TheVariants.{LineEnd, Gap, Token, Bad}

-- a token: its kind, the location of its first byte, how many bytes stand before it, and its own bytes
pub record TextToken : Type 0 where
  pub kind : TokenKind
  pub location : Location
  pub at : ℕ
  pub text : List ℕ

-- a byte is refused at this location; which operation stands there only a reader knows
abbrev pub bad_byte : Location → Refusal
bad_byte location = record { file = 0; location = location; op = op.File; cause = cause.BadByte }

-- what the bytes begin with is told, and then what is told once so many further bytes are skipped
abbrev pub lex_prefix : Prefix → Location → ℕ → List ℕ → (ℕ → List (Result TextToken Refusal)) → List (Result TextToken Refusal)
lex_prefix LineEnd location at bytes later = later 0
lex_prefix (Gap count) location at bytes later = later (count - 1)
lex_prefix (Token kind count) location at bytes later = Ok (record { kind = kind; location = location; at = at; text = take count bytes }) ∷ later (count - 1)
lex_prefix (Bad before) location at bytes later = Err (bad_byte (further location before)) ∷ []

-- the tokens of the bytes after the first `skipped` ones; `location` and `at` are those of the first byte
unfoldable pub tokens_after : ℕ → Location → ℕ → List ℕ → List (Result TextToken Refusal)
tokens_after skipped location at [] = []
tokens_after zero location at (b ∷ bs) = lex_prefix (prefix_of b bs) location at (b ∷ bs) (λ more. tokens_after more (next_location location b) (at + 1) bs)
tokens_after (suc skipped) location at (b ∷ bs) = tokens_after skipped (next_location location b) (at + 1) bs

-- the tokens of a text
abbrev pub tokens : List ℕ → List (Result TextToken Refusal)
tokens source = tokens_after 0 start_location 0 source

-- the tokens from a position of a text on
abbrev pub tokens_left : Cursor → List (Result TextToken Refusal)
tokens_left cursor = tokens_after 0 (location_of cursor.source cursor.at) cursor.at (drop cursor.at cursor.source)

-- a token with the bytes that it borrows
abbrev pub text_token : code.Token → TextToken
text_token token = record { kind = token.kind; location = token.location; at = token.at; text = token.text.now }

-- an answer is the first of the tokens, and what is left are the others; the last of all, which is a refusal or nothing, stays
abbrev pub Gives : Result (Option code.Token) Refusal → List (Result TextToken Refusal) → List (Result TextToken Refusal) → Type 0
Gives (Ok None) before after = (before ≡ []) × (after ≡ [])
Gives (Ok (Some token)) before after = before ≡ Ok (text_token token) ∷ after
Gives (Err refusal) before after = (before ≡ Err refusal ∷ []) × (after ≡ before)

-- a token's bytes stand in the source at its position, at its location, after what was read and before what is left, and are not none
pub record IsSpan (token : TextToken) (before after : Cursor) : Type 0 where
  pub following : before.at ≤ token.at
  pub ended : token.at + length token.text ≡ after.at
  pub some : 1 ≤ length token.text
  pub slice : token.text ≡ take (length token.text) (drop token.at before.source)
  pub location : token.location ≡ location_of before.source token.at

-- where an answer is a token, it is the span that was read; where it is none, the text is at its end
abbrev pub Reads : Result (Option code.Token) Refusal → Cursor → Cursor → Type 0
Reads (Ok None) before after = after.at ≡ length before.source
Reads (Ok (Some token)) before after = IsSpan (text_token token) before after
Reads (Err refusal) before after = ⊤
