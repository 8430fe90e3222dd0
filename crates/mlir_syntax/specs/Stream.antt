-- A text as a reader meets it: tokens, and after the last one the end of the text, or a byte that begins no token.
use Rattle.std.specs.Prelude.{ℕ, Bool, true, false, cond, ◌&&◌, List, [], ◌∷◌, length, Option, Some, None, Result, Ok, Err, codes}
use Rattle.diag.specs.Location.{location_of}
use Rattle.diag.specs.declared.refusal.Location.{Location}
use Rattle.diag.specs.declared.refusal.Refusal.{Refusal}
use Rattle.diag.specs.declared.refusal.OpName.{OpName}
use Rattle.diag.specs.declared.cause.Cause.{Cause}
use Rattle.diag.specs.declared.cause.Cause.TheVariants.{BadByte, Unexpected, OutsideProfile}
use Rattle.hw_model.specs.Design.{same_name}
use Rattle.mlir_lexer.specs.Tokens.{TextToken, tokens}
use Rattle.mlir_lexer.specs.TokenKinds.{is_kind}
use Rattle.mlir_lexer.specs.declared.token.TokenKind.{TokenKind}
use Rattle.mlir_lexer.specs.declared.token.TokenKind.TheVariants as kind

-- a token, or what ends the text
pub data StreamToken : Type 0 where
  token : TextToken → StreamToken
  bad : Location → StreamToken
  end : Location → StreamToken

-- the tokens that are left, where the text ends at a location
abbrev pub stream : Location → List (Result TextToken Refusal) → List StreamToken
stream location [] = end location ∷ []
stream location (Ok t ∷ ts) = token t ∷ stream location ts
stream location (Err r ∷ ts) = bad r.location ∷ []

-- the tokens of a text
abbrev pub stream_of : List ℕ → List StreamToken
stream_of source = stream (location_of source (length source)) (tokens source)

-- ---- words

-- whether a token is a bare name with this text
abbrev pub is_word : List ℕ → TextToken → Bool
is_word name t = is_kind t.kind kind.BareName && same_name t.text name

-- ---- what stands first

-- the first token
abbrev pub first : List StreamToken → Option TextToken
first [] = None
first (token t ∷ ts) = Some t
first (bad p ∷ ts) = None
first (end p ∷ ts) = None

-- whether there is a first token, and it is so
abbrev pub is_first : (TextToken → Bool) → List StreamToken → Bool
is_first test [] = false
is_first test (token t ∷ ts) = test t
is_first test (bad p ∷ ts) = false
is_first test (end p ∷ ts) = false

-- whether the first token is of a kind
abbrev pub is_next : TokenKind → List StreamToken → Bool
is_next k ts = is_first (λ t. is_kind t.kind k) ts

-- whether the text ends here
abbrev pub is_end : List StreamToken → Bool
is_end [] = false
is_end (token t ∷ ts) = false
is_end (bad p ∷ ts) = false
is_end (end p ∷ ts) = true

-- what stands after the first token; nothing stands after the end
abbrev pub after : List StreamToken → List StreamToken
after [] = []
after (token t ∷ ts) = ts
after (bad p ∷ ts) = bad p ∷ ts
after (end p ∷ ts) = end p ∷ ts

-- ---- refusals

-- the refusal of a token that no form has there: `loc` is not read anywhere
abbrev pub cause_of_first : TextToken → Cause
cause_of_first t = cond (is_word (codes "loc") t) OutsideProfile Unexpected

-- a refusal of one file
abbrev pub refusal : Location → OpName → Cause → Refusal
refusal location op cause = record { file = 0; location = location; op = op; cause = cause }

-- what stands first is refused, a token for a cause
abbrev pub refusal_at : Cause → OpName → List StreamToken → Refusal
refusal_at cause op [] = refusal (record { line = 1; col = 1 }) op Unexpected
refusal_at cause op (token t ∷ ts) = refusal t.location op cause
refusal_at cause op (bad p ∷ ts) = refusal p op BadByte
refusal_at cause op (end p ∷ ts) = refusal p op Unexpected

-- what stands first is not what any form has there
abbrev pub unexpected_refusal : OpName → List StreamToken → Refusal
unexpected_refusal op [] = refusal (record { line = 1; col = 1 }) op Unexpected
unexpected_refusal op (token t ∷ ts) = refusal t.location op (cause_of_first t)
unexpected_refusal op (bad p ∷ ts) = refusal p op BadByte
unexpected_refusal op (end p ∷ ts) = refusal p op Unexpected
