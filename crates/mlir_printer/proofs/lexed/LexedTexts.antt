-- Bytes that are lexed as a phrase, whatever stands after them.
use Rattle.std.proofs.Common.{◌≡◌, ◌⊎◌, inl, inr, ℕ, suc, ◌+◌, ◌-◌, Bool, true, false, ◌==◌, cond, List, [], ◌∷◌, ◌++◌, take, length, map, Result, Ok, refl, sym, ◌∙◌, ap, subst, arith, append_assoc, add-one}
use Rattle.std.specs.Prelude.{⊤}
use Rattle.std.proofs.lemmas.List.{append-nil, map-append}
use Rattle.std.proofs.Math.Seq.{take-append_seam}
use Rattle.std.proofs.lemmas.Bool.{cond-true, cond-false, eqb-true}
use Rattle.diag.specs.Location.{next_location}
use Rattle.diag.specs.declared.refusal.Location.{Location}
use Rattle.diag.specs.declared.refusal.Refusal.{Refusal}
use Rattle.mlir_lexer.specs.Classes.{is_space, is_suffix_byte}
use Rattle.mlir_lexer.specs.Runs.{run}
use Rattle.mlir_lexer.specs.Prefixes.{prefix_of, sign_prefix, mark_of}
use Rattle.mlir_lexer.specs.Tokens.{TextToken, lex_prefix, tokens_after}
use Rattle.mlir_lexer.specs.declared.token.TokenKind.{TokenKind}
use Rattle.mlir_lexer.specs.declared.token.TokenKind.TheVariants as kind
use Rattle.mlir_lexer.specs.declared.prefixes.Prefix.TheVariants.{LineEnd, Gap, Token}
use Rattle.mlir_syntax.specs.Spelling.{Phrase, One, Mark, Nothing, Then}
use Rattle.mlir_operations.specs.Spelling.{token_of}

-- ---- where a token ends

-- a name or a number that stands before ends here
abbrev pub Stops : List ℕ → Type 0
Stops [] = ⊤
Stops (b ∷ bs) = is_suffix_byte b ≡ false

pub stops_joined : (a b : List ℕ) → Stops a → Stops b → Stops (a ++ b)
stops_joined [] b h g = g
stops_joined (x ∷ xs) b h g = h

-- ---- bytes before others

-- these bytes are tokens that say something, and then those after them are read
pub record IsLexed (P : Phrase) (bytes rest : List ℕ) (location : Location) (at : ℕ) : Type 0 where
  pub passed : List TextToken
  pub end : Location
  pub following : ℕ
  pub same : tokens_after 0 location at (bytes ++ rest) ≡ map token_of passed ++ tokens_after 0 end following rest
  pub says : P passed

-- bytes say something, whatever stands after them
pub record Whole (P : Phrase) (bytes : List ℕ) : Type 0 where
  pub lex : (rest : List ℕ) (location : Location) (at : ℕ) → IsLexed P bytes rest location at

-- bytes say something, where what stands after them ends a token
pub record Lexed (P : Phrase) (bytes : List ℕ) : Type 0 where
  pub lex : (rest : List ℕ) (location : Location) (at : ℕ) → Stops rest → IsLexed P bytes rest location at

pub lexed : {P : Phrase} {bytes : List ℕ} → Whole P bytes → Lexed P bytes
lexed h = record { lex = λ rest location at _. h.lex rest location at }

-- ---- phrases

is_lexed_as : {P Q : Phrase} {bytes rest : List ℕ} {location : Location} {at : ℕ} → ((ts : List TextToken) → P ts → Q ts) → IsLexed P bytes rest location at
    → IsLexed Q bytes rest location at
is_lexed_as to h = record { passed = h.passed; end = h.end; following = h.following; same = h.same; says = to h.passed h.says }

pub lexed_as : {P Q : Phrase} {bytes : List ℕ} → ((ts : List TextToken) → P ts → Q ts) → Lexed P bytes → Lexed Q bytes
lexed_as to h = record { lex = λ rest location at stops. is_lexed_as to (h.lex rest location at stops) }

pub whole_as : {P Q : Phrase} {bytes : List ℕ} → ((ts : List TextToken) → P ts → Q ts) → Whole P bytes → Whole Q bytes
whole_as to h = record { lex = λ rest location at. is_lexed_as to (h.lex rest location at) }

pub lexed_by : {P : Phrase} {a b : List ℕ} → a ≡ b → Lexed P a → Lexed P b
lexed_by {P} e h = subst (Lexed P) e h

pub whole_by : {P : Phrase} {a b : List ℕ} → a ≡ b → Whole P a → Whole P b
whole_by {P} e h = subst (Whole P) e h

map_joined : (a b : List TextToken) (v : List (Result TextToken Refusal)) → map token_of (a ++ b) ++ v ≡ map token_of a ++ (map token_of b ++ v)
map_joined a b v = ap (λ x. x ++ v) (map-append token_of a b) ∙ append_assoc (map token_of a) (map token_of b) v

pub joined : {P Q : Phrase} {a b rest : List ℕ} {location : Location} {at : ℕ} (h : IsLexed P a (b ++ rest) location at) → IsLexed Q b rest h.end h.following
    → IsLexed (Then P Q) (a ++ b) rest location at
joined {a = a} {b} {rest} {location} {at} h g = record {
  passed = h.passed ++ g.passed;
  end = g.end;
  following = g.following;
  same =
      ap (λ x. tokens_after 0 location at x) (append_assoc a b rest) ∙ h.same ∙ ap (λ x. map token_of h.passed ++ x) g.same
      ∙ sym (map_joined h.passed g.passed (tokens_after 0 g.end g.following rest));
  says = (h.passed, g.passed, refl, h.says, g.says);
}

-- one phrase and then another, which ends the first
pub then : {P Q : Phrase} {a b : List ℕ} → Lexed P a → Lexed Q b → Stops b → Lexed (Then P Q) (a ++ b)
then {a = a} {b} h g first = record {
  lex = λ rest location at stops.
      let one = h.lex (b ++ rest) location at (stops_joined b rest first stops) in joined one (g.lex rest one.end one.following stops);
}

pub then_on : {P Q : Phrase} {a b : List ℕ} → Whole P a → Lexed Q b → Lexed (Then P Q) (a ++ b)
then_on {a = a} {b} h g = record {
  lex = λ rest location at stops. let one = h.lex (b ++ rest) location at in joined one (g.lex rest one.end one.following stops);
}

pub then_whole : {P Q : Phrase} {a b : List ℕ} → Whole P a → Whole Q b → Whole (Then P Q) (a ++ b)
then_whole {a = a} {b} h g = record {
  lex = λ rest location at. let one = h.lex (b ++ rest) location at in joined one (g.lex rest one.end one.following);
}

-- bytes that end a token of their own
pub closed : {P Q : Phrase} {a : List ℕ} (b : ℕ) (bs : List ℕ) → Lexed P a → Whole Q (b ∷ bs) → is_suffix_byte b ≡ false
    → Whole (Then P Q) (a ++ (b ∷ bs))
closed b bs h g first = record {
  lex = λ rest location at. let one = h.lex ((b ∷ bs) ++ rest) location at first in joined one (g.lex rest one.end one.following);
}

-- nothing is no bytes
pub nothing : Whole Nothing []
nothing = record { lex = λ rest location at. record { passed = []; end = location; following = at; same = refl; says = refl } }

pub past_nothing : {P : Phrase} (ts : List TextToken) → Then P Nothing ts → P ts
past_nothing {P} ts h = subst P (sym (h.2 ∙ ap (λ x. h.0 ++ x) h.4 ∙ append-nil h.0)) h.3

pub after_nothing : {P : Phrase} (ts : List TextToken) → Then Nothing P ts → P ts
after_nothing {P} ts h = subst P (sym (h.2 ∙ ap (λ x. x ++ h.1) h.3)) h.4

pub with_nothing : {P : Phrase} (ts : List TextToken) → P ts → Then P Nothing ts
with_nothing ts h = (ts, [], sym (append-nil ts), h, refl)

pub on_nothing : {P : Phrase} (ts : List TextToken) → P ts → Then Nothing P ts
on_nothing ts h = ([], ts, refl, refl, h)

-- ---- single tokens

-- the bytes of a token are passed
passed_by : (bs rest : List ℕ) (location : Location) (at : ℕ)
    → (end : Location) × (following : ℕ) × (tokens_after (length bs) location at (bs ++ rest) ≡ tokens_after 0 end following rest)
unfolding tokens_after
passed_by [] rest location at = (location, at, refl)
passed_by (b ∷ bs) rest location at = passed_by bs rest (next_location location b) (at + 1)

-- bytes that begin with a token are the token and what is after it
pub one_token : {T : TextToken → Type 0} {k : TokenKind} {n : ℕ} (b : ℕ) (bs rest : List ℕ) (location : Location) (at : ℕ)
    → prefix_of b (bs ++ rest) ≡ Token k n
    → n ≡ length bs + 1 → ((t : TextToken) → t.kind ≡ k → t.text ≡ b ∷ bs → T t) → IsLexed (One T) (b ∷ bs) rest location at
unfolding tokens_after
one_token {k = k} {n} b bs rest location at prefix count is =
    let (end, following, e) = passed_by bs rest (next_location location b) (at + 1) in
    let later = λ (more : ℕ). tokens_after more (next_location location b) (at + 1) (bs ++ rest) in
    let t : TextToken = record { kind = k; location = location; at = at; text = take n (b ∷ (bs ++ rest)) } in
    let text : take n (b ∷ (bs ++ rest)) ≡ b ∷ bs = ap (λ m. take m (b ∷ (bs ++ rest))) (count ∙ add-one (length bs))
    ∙ take-append_seam (b ∷ bs) rest in
    let left : n - 1 ≡ length bs = omega (arith, count) in
    record {
      passed = t ∷ [];
      end = end;
      following = following;
      same = ap (λ f. lex_prefix f location at (b ∷ (bs ++ rest)) later) prefix ∙ ap (λ m. Ok t ∷ later m) left ∙ ap (λ x. Ok t ∷ x) e;
      says = (t, refl, is t refl text);
    }

-- ---- blanks and line ends

-- further blanks are passed one by one as well
blanks_passed : (bs : List ℕ) (location : Location) (at : ℕ) → tokens_after (run is_space bs) location at bs ≡ tokens_after 0 location at bs
unfolding tokens_after prefix_of
blanks_passed [] location at = refl
blanks_passed (b ∷ bs) location at = go (is_space b) refl (b == 10) refl
  where
    later : ℕ → List (Result TextToken Refusal)
    later more = tokens_after more (next_location location b) (at + 1) bs

    go : (s : Bool) → is_space b ≡ s → (e : Bool) → (b == 10) ≡ e
        → tokens_after (cond s (run is_space bs + 1) 0) location at (b ∷ bs)
        ≡ lex_prefix (prefix_of b bs) location at (b ∷ bs) (λ more. tokens_after more (next_location location b) (at + 1) bs)
    go false h e g = refl
    go true h true g = let same : b ≡ 10 = eqb-true b 10 g in absurd (cc (ap is_space same))
    go true h false g =
        let prefix : prefix_of b bs ≡ Gap (run is_space bs + 1) =
        cond-false (b == 10) LineEnd _ g ∙ cond-true (is_space b) (Gap (run is_space bs + 1)) _ h in
        let count : run is_space bs + 1 ≡ suc (run is_space bs) = add-one (run is_space bs) in
        let less : run is_space bs + 1 - 1 ≡ run is_space bs = omega arith in
        ap (λ n. tokens_after n location at (b ∷ bs)) count ∙ ap later (sym less) ∙ ap (λ f. lex_prefix f location at (b ∷ bs) later) (sym prefix)

blank_passed : (rest : List ℕ) (location : Location) (at : ℕ) → tokens_after 0 location at (32 ∷ rest) ≡ tokens_after 0 (next_location location 32) (at + 1) rest
unfolding tokens_after prefix_of
blank_passed rest location at =
    let less : run is_space rest + 1 - 1 ≡ run is_space rest = omega arith in
    ap (λ n. tokens_after n (next_location location 32) (at + 1) rest) less ∙ blanks_passed rest (next_location location 32) (at + 1)

line_passed : (rest : List ℕ) (location : Location) (at : ℕ) → tokens_after 0 location at (10 ∷ rest) ≡ tokens_after 0 (next_location location 10) (at + 1) rest
unfolding tokens_after prefix_of
line_passed rest location at = refl

-- blanks and ends of lines
abbrev pub AreBlank : List ℕ → Type 0
AreBlank [] = ⊤
AreBlank (b ∷ bs) = ((b ≡ 32) ⊎ (b ≡ 10)) × AreBlank bs

gap_passed : {b : ℕ} → (b ≡ 32) ⊎ (b ≡ 10) → (rest : List ℕ) (location : Location) (at : ℕ)
    → tokens_after 0 location at (b ∷ rest) ≡ tokens_after 0 (next_location location b) (at + 1) rest
gap_passed (inl e) rest location at = rw e (blank_passed rest location at)
gap_passed (inr e) rest location at = rw e (line_passed rest location at)

is_blank : (bs rest : List ℕ) (location : Location) (at : ℕ) → AreBlank bs → IsLexed Nothing bs rest location at
is_blank [] rest location at h = nothing.lex rest location at
is_blank (b ∷ bs) rest location at h =
    let more = is_blank bs rest (next_location location b) (at + 1) h.1 in
    record { passed = more.passed; end = more.end; following = more.following; same = gap_passed h.0 (bs ++ rest) location at ∙ more.same; says = more.says }

-- blanks say nothing
pub blank : (bs : List ℕ) → AreBlank bs → Whole Nothing bs
blank bs h = record { lex = λ rest location at. is_blank bs rest location at h }

pub one_blank : Whole Nothing (32 ∷ [])
one_blank = blank (32 ∷ []) (inl refl, tt)

-- after a blank
pub blank_on : {P : Phrase} {bs : List ℕ} → Lexed P bs → Lexed P (32 ∷ bs)
blank_on h = lexed_as after_nothing (then_on one_blank h)

pub blank_on_whole : {P : Phrase} {bs : List ℕ} → Whole P bs → Whole P (32 ∷ bs)
blank_on_whole h = whole_as after_nothing (then_whole one_blank h)

pub line_on : {P : Phrase} {bs : List ℕ} → Lexed P bs → Lexed P (10 ∷ bs)
line_on h = lexed_as after_nothing (then_on (blank (10 ∷ []) (inr refl, tt)) h)

-- before a blank
pub blank_after : {P : Phrase} {bs : List ℕ} → Lexed P bs → Whole P (bs ++ (32 ∷ []))
blank_after h = whole_as past_nothing (closed 32 [] h one_blank refl)

pub line_after : {P : Phrase} {bs : List ℕ} → Lexed P bs → Whole P (bs ++ (10 ∷ []))
line_after h = whole_as past_nothing (closed 10 [] h (blank (10 ∷ []) (inr refl, tt)) refl)

-- ---- marks

mark_by : {k : TokenKind} (b : ℕ) → ((rest : List ℕ) → prefix_of b rest ≡ Token k 1) → Whole (Mark k) (b ∷ [])
mark_by b prefix = record { lex = λ rest location at. one_token b [] rest location at (prefix rest) refl (λ t k e. k) }

pub comma_mark : Whole (Mark kind.Comma) (44 ∷ [])
unfolding prefix_of sign_prefix mark_of
comma_mark = mark_by 44 (λ rest. refl)

pub colon_mark : Whole (Mark kind.Colon) (58 ∷ [])
unfolding prefix_of sign_prefix mark_of
colon_mark = mark_by 58 (λ rest. refl)

pub equals_mark : Whole (Mark kind.Equals) (61 ∷ [])
unfolding prefix_of sign_prefix mark_of
equals_mark = mark_by 61 (λ rest. refl)

pub left_parenthesis : Whole (Mark kind.LeftParenthesis) (40 ∷ [])
unfolding prefix_of sign_prefix mark_of
left_parenthesis = mark_by 40 (λ rest. refl)

pub right_parenthesis : Whole (Mark kind.RightParenthesis) (41 ∷ [])
unfolding prefix_of sign_prefix mark_of
right_parenthesis = mark_by 41 (λ rest. refl)

pub left_bracket : Whole (Mark kind.LeftBracket) (91 ∷ [])
unfolding prefix_of sign_prefix mark_of
left_bracket = mark_by 91 (λ rest. refl)

pub right_bracket : Whole (Mark kind.RightBracket) (93 ∷ [])
unfolding prefix_of sign_prefix mark_of
right_bracket = mark_by 93 (λ rest. refl)

pub less_mark : Whole (Mark kind.Less) (60 ∷ [])
unfolding prefix_of sign_prefix mark_of
less_mark = mark_by 60 (λ rest. refl)

pub greater_mark : Whole (Mark kind.Greater) (62 ∷ [])
unfolding prefix_of sign_prefix mark_of
greater_mark = mark_by 62 (λ rest. refl)

pub left_brace : Whole (Mark kind.LeftBrace) (123 ∷ [])
unfolding prefix_of sign_prefix mark_of
left_brace = mark_by 123 (λ rest. refl)

pub right_brace : Whole (Mark kind.RightBrace) (125 ∷ [])
unfolding prefix_of sign_prefix mark_of
right_brace = mark_by 125 (λ rest. refl)

pub arrow_mark : Whole (Mark kind.Arrow) (45 ∷ 62 ∷ [])
unfolding prefix_of sign_prefix mark_of
arrow_mark = record { lex = λ rest location at. one_token 45 (62 ∷ []) rest location at refl refl (λ t k e. k) }
