-- Readers: each gives what the tokens begin with and the tokens after it, or refuses the first token that no form has there.
use Rattle.std.specs.Prelude.{◌≡◌, ℕ, zero, suc, cond, List, [], ◌∷◌, length, Result, Ok, Err}
use Rattle.diag.specs.declared.refusal.Refusal.{Refusal}
use Rattle.diag.specs.declared.refusal.OpName.{OpName}
use Rattle.mlir_lexer.specs.Tokens.{TextToken}
use Rattle.mlir_lexer.specs.declared.token.TokenKind.{TokenKind}
use Rattle.mlir_lexer.specs.declared.token.TokenKind.TheVariants as kind
use Rattle.mlir_syntax.specs.Stream.{StreamToken, token, bad, end, is_next, is_word, after, unexpected_refusal}
use Rattle.mlir_lexer.specs.TokenKinds.{is_kind}

-- what is read, and what is left
abbrev pub Read : Type 0 → Type 0
Read A = Result (A × List StreamToken) Refusal

abbrev pub Reads : Type 0 → Type 0
Reads A = List StreamToken → Read A

-- what one reader gives, taken on by the next
abbrev pub on : {A B : Type 0} → Read A → (A → Reads B) → Read B
on (Err e) f = Err e
on (Ok p) f = f p.0 p.1

-- one reader and then another
abbrev pub then : {A B : Type 0} → Reads A → (A → Reads B) → Reads B
then read f s = on (read s) f

-- nothing is read
abbrev pub give : {A : Type 0} → A → Reads A
give x s = Ok (x, s)

-- a token of a kind
unfoldable pub want : OpName → TokenKind → Reads TextToken
want op k [] = Err (unexpected_refusal op [])
want op k (token t ∷ ts) = cond (is_kind t.kind k) (Ok (t, ts)) (Err (unexpected_refusal op (token t ∷ ts)))
want op k (bad p ∷ ts) = Err (unexpected_refusal op (bad p ∷ ts))
want op k (end p ∷ ts) = Err (unexpected_refusal op (end p ∷ ts))

-- a bare name with this text
unfoldable pub want_word : OpName → List ℕ → Reads TextToken
want_word op name [] = Err (unexpected_refusal op [])
want_word op name (token t ∷ ts) = cond (is_word name t) (Ok (t, ts)) (Err (unexpected_refusal op (token t ∷ ts)))
want_word op name (bad p ∷ ts) = Err (unexpected_refusal op (bad p ∷ ts))
want_word op name (end p ∷ ts) = Err (unexpected_refusal op (end p ∷ ts))

-- ---- lists

-- an item, and where a comma stands after it further ones, so many at most
unfoldable pub items : {A : Type 0} → OpName → Reads A → ℕ → Reads (List A)
items op item zero s = Err (unexpected_refusal op s)
items op item (suc n) s =
    on (item s) (λ x left. cond (is_next kind.Comma left) (on (items op item n (after left)) (λ xs following. Ok (x ∷ xs, following))) (Ok (x ∷ [], left)))

-- one item or more, with commas between them
abbrev pub some_items : {A : Type 0} → OpName → Reads A → Reads (List A)
some_items op item s = items op item (length s) s

-- items with commas between them up to a closing token
unfoldable pub items_until : {A : Type 0} → OpName → TokenKind → Reads A → Reads (List A)
items_until op close item s =
    cond (is_next close s) (Ok ([], after s)) (on (some_items op item s) (λ xs left. on (want op close left) (λ _ following. Ok (xs, following))))

-- ---- what code gives is what is read

-- an answer is what is read, seen by a view, and what is left; out of memory is free
abbrev pub Gives : {A B : Type 0} → (A → B) → A → List StreamToken → Read B → Type 0
Gives view x left read = read ≡ Ok (view x, left)
