-- What is read at one turn: the end of a line, a gap, a token, or nothing.
use Rattle.std.proofs.Common.{◌≡◌, ℕ, ◌+◌, ◌-◌, ◌≤◌, List, [], ◌∷◌, take, drop, length, Result, Ok, Err, refl, sym, ap, ◌∙◌, arith, length-drop, length-take}
use Rattle.diag.specs.Location.{next_location, below, further, location_after, location_of}
use Rattle.diag.specs.declared.refusal.Refusal.{Refusal}
use Rattle.mlir_lexer.specs.Tokens.{TextToken, bad_byte, lex_prefix, tokens_after, tokens_left, IsSpan}
use Rattle.mlir_lexer.specs.Cursor.{Cursor}
use Rattle.mlir_lexer.specs.Flat.{IsWithinLine}
use Rattle.mlir_lexer.specs.Prefixes.{prefix_of}
use Rattle.mlir_lexer.specs.declared.token.TokenKind.{TokenKind}
use Rattle.mlir_lexer.specs.declared.prefixes.Prefix.{Prefix}
use Rattle.mlir_lexer.specs.declared.prefixes.Prefix.TheVariants.{LineEnd, Gap, Token, Bad}
use Rattle.mlir_lexer.proofs.Left.{IsFurther, following, location_of-add, location_of-next, tokens_left-lex_prefix, following-left}
use Rattle.mlir_lexer.proofs.Fits.{FitsPrefix, prefix_of-fits}

-- the cursor so many bytes further on
abbrev pub moved : Cursor → ℕ → Cursor
moved cursor n = record { source = cursor.source; at = cursor.at + n }

-- what is left begins so
pub record Begins (cursor : Cursor) (b : ℕ) (bs : List ℕ) (prefix : Prefix) : Type 0 where
  pub split : drop cursor.at cursor.source ≡ b ∷ bs
  pub is : prefix ≡ prefix_of b bs

pub begins : {rest : List ℕ} (cursor : Cursor) (b : ℕ) (bs : List ℕ) (prefix : Prefix) → rest ≡ drop cursor.at cursor.source → rest ≡ b ∷ bs
    → prefix ≡ prefix_of b bs → Begins cursor b bs prefix
begins cursor b bs prefix r s e = record { split = sym r ∙ s; is = e }

fits : {cursor : Cursor} {b : ℕ} {bs : List ℕ} {prefix : Prefix} → Begins cursor b bs prefix → FitsPrefix b bs prefix
fits {cursor} {b} {bs} {prefix} h = rw h.is (prefix_of-fits b bs)

-- what is left, by what it begins with
is_told : {cursor : Cursor} {b : ℕ} {bs : List ℕ} {prefix : Prefix} → Begins cursor b bs prefix
    → tokens_left cursor ≡ lex_prefix prefix (location_of cursor.source cursor.at) cursor.at (b ∷ bs) (λ more. following cursor.source (cursor.at + 1) more)
is_told {cursor} {b} {bs} {prefix} h =
    tokens_left-lex_prefix cursor.source cursor.at b bs h.split
    ∙ ap (λ f. lex_prefix f (location_of cursor.source cursor.at) cursor.at (b ∷ bs) (λ more. following cursor.source (cursor.at + 1) more)) (sym h.is)

pub line_end-location : {cursor : Cursor} {b : ℕ} {bs : List ℕ} → Begins cursor b bs LineEnd
    → location_of cursor.source (cursor.at + 1) ≡ below (location_of cursor.source cursor.at)
line_end-location {cursor} {b} {bs} h = location_of-next cursor.source cursor.at b bs h.split ∙ ap (next_location (location_of cursor.source cursor.at)) (fits h)

pub line_end-further : {start cursor : Cursor} {b : ℕ} {bs : List ℕ} → Begins cursor b bs LineEnd → IsFurther start cursor → IsFurther start (moved cursor 1)
unfolding following
line_end-further {start} {cursor} {b} {bs} h i = record { same = sym (is_told h) ∙ i.same; source = i.source; following = omega (arith, i.following) }

-- bytes within a line are within the text, and the column after them is so much greater
line-within : (cursor : Cursor) {b : ℕ} {bs : List ℕ} (n : ℕ) → drop cursor.at cursor.source ≡ b ∷ bs → IsWithinLine n (b ∷ bs)
    → cursor.at + n ≤ length cursor.source
line-within cursor {b} {bs} n split line =
    let left : length cursor.source - cursor.at ≡ length (b ∷ bs) = sym (length-drop cursor.at cursor.source) ∙ ap length split
    in omega (arith, left, line.some, line.within)

line-location : (cursor : Cursor) {b : ℕ} {bs : List ℕ} (n : ℕ) → drop cursor.at cursor.source ≡ b ∷ bs → IsWithinLine n (b ∷ bs)
    → location_of cursor.source (cursor.at + n) ≡ further (location_of cursor.source cursor.at) n
line-location cursor {b} {bs} n split line =
    location_of-add cursor.source cursor.at n
    ∙ (ap (λ (l : List ℕ). location_after (location_of cursor.source cursor.at) (take n l)) split ∙ line.along (location_of cursor.source cursor.at))

pub gap-within : {cursor : Cursor} {b : ℕ} {bs : List ℕ} (n : ℕ) → Begins cursor b bs (Gap n) → cursor.at + n ≤ length cursor.source
gap-within {cursor} n h = line-within cursor n h.split (fits h)

pub gap-location : {cursor : Cursor} {b : ℕ} {bs : List ℕ} (n : ℕ) → Begins cursor b bs (Gap n)
    → location_of cursor.source (cursor.at + n) ≡ further (location_of cursor.source cursor.at) n
gap-location {cursor} n h = line-location cursor n h.split (fits h)

pub gap-further : {start cursor : Cursor} {b : ℕ} {bs : List ℕ} (n : ℕ) → Begins cursor b bs (Gap n) → IsFurther start cursor → IsFurther start (moved cursor n)
gap-further {start} {cursor} {b} {bs} n h i =
    let line : IsWithinLine n (b ∷ bs) = fits h
    in record {
      same = sym (is_told h ∙ following-left cursor.source cursor.at n line.some (line-within cursor n h.split line)) ∙ i.same;
      source = i.source;
      following = omega (arith, i.following);
    }

pub gap-some : {cursor : Cursor} {b : ℕ} {bs : List ℕ} (n : ℕ) → Begins cursor b bs (Gap n) → 1 ≤ n
gap-some {cursor} {b} {bs} n h = let line : IsWithinLine n (b ∷ bs) = fits h in line.some

pub token-within : {cursor : Cursor} {b : ℕ} {bs : List ℕ} (kind : TokenKind) (n : ℕ) → Begins cursor b bs (Token kind n) → cursor.at + n ≤ length cursor.source
token-within {cursor} kind n h = line-within cursor n h.split (fits h)

pub token-location : {cursor : Cursor} {b : ℕ} {bs : List ℕ} (kind : TokenKind) (n : ℕ) → Begins cursor b bs (Token kind n)
    → location_of cursor.source (cursor.at + n) ≡ further (location_of cursor.source cursor.at) n
token-location {cursor} kind n h = line-location cursor n h.split (fits h)

-- the token that stands at a cursor
abbrev pub token_at : Cursor → TokenKind → ℕ → TextToken
token_at cursor kind n =
    record { kind = kind; location = location_of cursor.source cursor.at; at = cursor.at; text = take n (drop cursor.at cursor.source) }

pub token-left : {start cursor : Cursor} {b : ℕ} {bs : List ℕ} (kind : TokenKind) (n : ℕ) → Begins cursor b bs (Token kind n) → IsFurther start cursor
    → tokens_left start ≡ Ok (token_at cursor kind n) ∷ tokens_left (moved cursor n)
token-left {start} {cursor} {b} {bs} kind n h i =
    let line : IsWithinLine n (b ∷ bs) = fits h
    in
    let location = location_of cursor.source cursor.at
    in
    let text : take n (b ∷ bs) ≡ take n (drop cursor.at cursor.source) = ap (take n) (sym h.split)
    in
    let lexeme = λ (t : List ℕ). (let l : TextToken = record { kind = kind; location = location; at = cursor.at; text = t } in l)
    in
    let list = λ (t : List ℕ) (rest : List (Result TextToken Refusal)). (let l : List (Result TextToken Refusal) = Ok (lexeme t) ∷ rest in l)
    in
    sym i.same
    ∙ (is_told h
    ∙ (ap (list (take n (b ∷ bs))) (following-left cursor.source cursor.at n line.some (line-within cursor n h.split line))
    ∙ ap (λ t. list t (tokens_left (moved cursor n))) text))

pub token-span : {start cursor : Cursor} {b : ℕ} {bs : List ℕ} (kind : TokenKind) (n : ℕ) → Begins cursor b bs (Token kind n) → IsFurther start cursor
    → IsSpan (token_at cursor kind n) start (moved cursor n)
token-span {start} {cursor} {b} {bs} kind n h i =
    let line : IsWithinLine n (b ∷ bs) = fits h
    in
    let within : cursor.at + n ≤ length cursor.source = line-within cursor n h.split line
    in
    let count : length (take n (drop cursor.at cursor.source)) ≡ n = rw (length-take n (drop cursor.at cursor.source), length-drop cursor.at cursor.source) (omega (arith, within))
    in record {
      following = i.following;
      ended = rw count refl;
      some = rw count line.some;
      slice = ap (λ s. take n (drop cursor.at s)) i.source ∙ sym (ap (λ k. take k (drop cursor.at start.source)) count);
      location = ap (λ s. location_of s cursor.at) i.source;
    }

pub bad-left : {start cursor : Cursor} {b : ℕ} {bs : List ℕ} (before : ℕ) → Begins cursor b bs (Bad before) → IsFurther start cursor
    → tokens_left start ≡ Err (bad_byte (further (location_of cursor.source cursor.at) before)) ∷ []
bad-left before h i = sym i.same ∙ is_told h

pub end-left : {start cursor : Cursor} → drop cursor.at cursor.source ≡ [] → IsFurther start cursor → (tokens_left start ≡ []) × (tokens_left cursor ≡ [])
unfolding tokens_after
end-left {start} {cursor} e i =
    let none : tokens_left cursor ≡ [] = ap (λ (l : List ℕ). tokens_after 0 (location_of cursor.source cursor.at) cursor.at l) e
    in (sym i.same ∙ none, none)
