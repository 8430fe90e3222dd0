-- Names are read as what they hold.
use Rattle.std.proofs.Common.{◌≡◌, inl, inr, ℕ, suc, ◌+◌, ◌≤◌, Bool, true, false, ◌||◌, ◌==◌, cond, List, [], ◌∷◌, ◌++◌, length, refl, ◌∙◌, ap, arith, add-one}
use Rattle.std.proofs.lemmas.Bool.{cond-true, cond-false, eqb-true, and_parts, or_from}
use Rattle.hw_model.specs.Types.{Name}
use Rattle.mlir_lexer.specs.Classes.{is_space, is_digit, is_name_start, is_name_byte, is_suffix_byte}
use Rattle.mlir_lexer.specs.Runs.{run}
use Rattle.mlir_lexer.specs.Contents.{content_of}
use Rattle.mlir_lexer.specs.Prefixes.{prefix_of, sign_prefix, suffix_token, suffix_length}
use Rattle.mlir_lexer.specs.Tokens.{TextToken}
use Rattle.mlir_lexer.specs.declared.token.TokenKind.{TokenKind}
use Rattle.mlir_lexer.specs.declared.token.TokenKind.TheVariants as kind
use Rattle.mlir_lexer.specs.declared.prefixes.Prefix.TheVariants.{LineEnd, Token, Bad}
use Rattle.mlir_syntax.specs.Spelling.{One, Word, Holding, NamePhrase, SymbolPhrase, TypeWord}
use Rattle.mlir_operations.specs.Spelling.{ValueName}
use Rattle.mlir_printer.specs.Strings.{is_bare, name_bytes, symbol_bytes, string_bytes}
use Rattle.mlir_printer.specs.Elements.{value_name_bytes}
use Rattle.mlir_printer.specs.Spellable.{IsValueName}
use Rattle.stored_form.specs.Bytes.{AreBytes}
use Rattle.mlir_printer.proofs.lexed.LexedTexts.{Stops, Lexed, one_token, lexed, lexed_as}
use Rattle.mlir_printer.proofs.lexed.LexedStrings.{unlike_byte, string_lexed, symbol_string_lexed}

-- ---- runs

-- a run that is the whole of some bytes goes no further where what stands after them does not go on
pub run_whole : (test : ℕ → Bool) (xs rest : List ℕ) → run test xs ≡ length xs → run test rest ≡ 0 → run test (xs ++ rest) ≡ length xs
run_whole test [] rest h stop = stop
run_whole test (x ∷ xs) rest h stop = go (test x) refl h (run_whole test xs rest)
  where
    go : (t : Bool) → test x ≡ t → cond t (run test xs + 1) 0 ≡ suc (length xs)
        → (run test xs ≡ length xs → run test rest ≡ 0 → run test (xs ++ rest) ≡ length xs)
        → run test (x ∷ (xs ++ rest)) ≡ suc (length xs)
    go true e h more =
        let less : run test xs ≡ length xs = omega (arith, h) in
        cond-true (test x) _ 0 e ∙ ap (λ n. n + 1) (more less stop) ∙ add-one (length xs)
    go false e h more = absurd (omega (arith, h))

either_false : (a b : Bool) → (a || b) ≡ false → (a ≡ false) × (b ≡ false)
either_false true b h = absurd cc
either_false false b h = (refl, h)

pub run_stops : (test : ℕ → Bool) (rest : List ℕ) → ((b : ℕ) → is_suffix_byte b ≡ false → test b ≡ false) → Stops rest → run test rest ≡ 0
run_stops test [] to stops = refl
run_stops test (b ∷ bs) to stops = cond-false (test b) _ 0 (to b stops)

name_stops : (b : ℕ) → is_suffix_byte b ≡ false → is_name_byte b ≡ false
name_stops b h = (either_false (is_name_byte b) (b == 45) h).0

pub digit_stops : (b : ℕ) → is_suffix_byte b ≡ false → is_digit b ≡ false
digit_stops b h =
    let name = name_stops b h in
    let more = (either_false (is_name_start b) (is_digit b || (b == 36 || b == 46)) name).1 in
    (either_false (is_digit b) (b == 36 || b == 46) more).0

-- ---- bare names

name_prefix : (b : ℕ) (bs : List ℕ) → is_name_start b ≡ true → prefix_of b bs ≡ Token kind.BareName (run is_name_byte bs + 1)
unfolding prefix_of
name_prefix b bs h =
    let line = unlike_byte is_name_start b 10 refl h in
    let blank = unlike_byte is_name_start b 32 refl h in
    let tab = unlike_byte is_name_start b 9 refl h in
    let back = unlike_byte is_name_start b 13 refl h in
    let space : is_space b ≡ false = or_from _ _ blank (or_from _ _ tab back) in
    cond-false (b == 10) LineEnd _ line ∙ cond-false (is_space b) _ _ space ∙ cond-true (is_name_start b) _ _ h

-- a bare name is read as one word
pub bare_lexed : (name : Name) → is_bare name ≡ true → Lexed (Word name) name
bare_lexed [] h = absurd cc
bare_lexed (b ∷ bs) h =
    let (start, whole) = and_parts (is_name_start b) (run is_name_byte bs == length bs) h in
    record {
      lex = λ rest location at stops.
          let more = run_whole is_name_byte bs rest (eqb-true _ _ whole) (run_stops is_name_byte rest name_stops stops) in
          one_token b bs rest location at (name_prefix b (bs ++ rest) start) (ap (λ n. n + 1) more) (λ t k e. (k, e));
    }

-- a name is read as what it holds
pub name_lexed : (name : Name) → AreBytes name → Lexed (NamePhrase name) (name_bytes name)
unfolding name_bytes
name_lexed name small = go (is_bare name) refl
  where
    go : (t : Bool) → is_bare name ≡ t → Lexed (NamePhrase name) (cond t name (string_bytes name))
    go true e = lexed_as (λ ts h. inl (h.0, h.1, (h.2.0, ap (content_of kind.BareName) h.2.1))) (bare_lexed name e)
    go false e = lexed_as (λ ts h. inr h) (lexed (string_lexed name small))

-- ---- suffixes

suffix_whole : (name rest : List ℕ) → 1 ≤ length name → suffix_length name ≡ length name → Stops rest → suffix_length (name ++ rest) ≡ length name
suffix_whole [] rest some whole stops = absurd (omega (arith, some))
suffix_whole (b ∷ bs) rest some whole stops = go (is_digit b) whole
  where
    go : (t : Bool) → cond t (run is_digit (b ∷ bs)) (run is_suffix_byte (b ∷ bs)) ≡ length (b ∷ bs)
        → cond t (run is_digit ((b ∷ bs) ++ rest)) (run is_suffix_byte ((b ∷ bs) ++ rest)) ≡ length (b ∷ bs)
    go true h = run_whole is_digit (b ∷ bs) rest h (run_stops is_digit rest digit_stops stops)
    go false h = run_whole is_suffix_byte (b ∷ bs) rest h (run_stops is_suffix_byte rest (λ c e. e) stops)

pub none_zero : (n : ℕ) → 1 ≤ n → (n == 0) ≡ false
none_zero n h = grind (arith, h)

suffixed_whole : (k : TokenKind) (name rest : List ℕ) → 1 ≤ length name → suffix_length name ≡ length name → Stops rest
    → suffix_token k (name ++ rest) ≡ Token k (length name + 1)
suffixed_whole k name rest some whole stops =
    let e = suffix_whole name rest some whole stops in
    let none = none_zero (length name) some in
    ap (λ n. cond (n == 0) (Bad 0) (Token k (n + 1))) e ∙ cond-false (length name == 0) (Bad 0) _ none

-- a token of a sign and a suffix
pub signed_lexed : {k : TokenKind} (b : ℕ) (name : List ℕ) → ((bs : List ℕ) → prefix_of b (name ++ bs) ≡ suffix_token k (name ++ bs)) → 1 ≤ length name
    → suffix_length name ≡ length name → Lexed (One (λ (t : TextToken). (t.kind ≡ k) × (t.text ≡ b ∷ name))) (b ∷ name)
signed_lexed {k} b name prefix some whole = record {
  lex = λ rest location at stops.
      one_token b name rest location at (prefix rest ∙ suffixed_whole k name rest some whole stops) refl (λ t k e. (k, e));
}

-- the name of a value
pub value_name_lexed : (name : Name) → IsValueName name → Lexed (ValueName name) (value_name_bytes name)
unfolding value_name_bytes prefix_of sign_prefix
value_name_lexed name h =
    lexed_as (λ ts p. (p.0, p.1, (p.2.0, ap (content_of kind.ValueName) p.2.1)))
    (signed_lexed {k = kind.ValueName} 37 name (λ bs. refl) h.some h.whole)

-- the word of a type
pub type_word_lexed : (name : List ℕ) → 1 ≤ length name → suffix_length name ≡ length name → Lexed (TypeWord name) (33 ∷ name)
unfolding prefix_of sign_prefix
type_word_lexed name some whole =
    lexed_as (λ ts p. (p.0, p.1, (p.2.0, ap (content_of kind.TypeName) p.2.1))) (signed_lexed {k = kind.TypeName} 33 name (λ bs. refl) some whole)

-- ---- symbols

start_no_digit : (b : ℕ) → is_name_start b ≡ true → is_digit b ≡ false
start_no_digit b h = grind (arith, h)

name_is_suffix : (b : ℕ) → is_name_byte b ≡ true → is_suffix_byte b ≡ true
name_is_suffix b h = ap (λ t. t || (b == 45)) h

pub run_wider : (test other : ℕ → Bool) (bs : List ℕ) → ((b : ℕ) → test b ≡ true → other b ≡ true) → run test bs ≡ length bs
    → run other bs ≡ length bs
run_wider test other [] to h = refl
run_wider test other (b ∷ bs) to h = go (test b) refl h (run_wider test other bs to)
  where
    go : (t : Bool) → test b ≡ t → cond t (run test bs + 1) 0 ≡ suc (length bs) → (run test bs ≡ length bs → run other bs ≡ length bs)
        → run other (b ∷ bs) ≡ suc (length bs)
    go true e h more =
        let less : run test bs ≡ length bs = omega (arith, h) in
        cond-true (other b) _ 0 (to b e) ∙ ap (λ n. n + 1) (more less) ∙ add-one (length bs)
    go false e h more = absurd (omega (arith, h))

start_is_suffix : (b : ℕ) → is_name_start b ≡ true → is_suffix_byte b ≡ true
start_is_suffix b h = name_is_suffix b (ap (λ t. t || (is_digit b || (b == 36 || b == 46))) h)

bare_suffix : (b : ℕ) (bs : List ℕ) → is_name_start b ≡ true → run is_name_byte bs ≡ length bs → suffix_length (b ∷ bs) ≡ length (b ∷ bs)
bare_suffix b bs start whole =
    cond-false (is_digit b) _ _ (start_no_digit b start) ∙ cond-true (is_suffix_byte b) _ 0 (start_is_suffix b start)
    ∙ ap (λ n. n + 1) (run_wider is_name_byte is_suffix_byte bs name_is_suffix whole) ∙ add-one (length bs)

bare_symbol : (name : Name) → is_bare name ≡ true → Lexed (Holding kind.SymbolName name) (64 ∷ name)
unfolding prefix_of sign_prefix
bare_symbol [] h = absurd cc
bare_symbol (b ∷ bs) h =
    let (start, whole) = and_parts (is_name_start b) (run is_name_byte bs == length bs) h in
    let quote = unlike_byte is_name_start b 34 refl start in
    lexed_as (λ ts p. (p.0, p.1, (p.2.0, ap (content_of kind.SymbolName) p.2.1)))
    (signed_lexed {k = kind.SymbolName} 64 (b ∷ bs) (λ rest. cond-false (b == 34) _ _ quote) (omega arith)
    (bare_suffix b bs start (eqb-true _ _ whole)))

-- a symbol is read as what it holds
pub symbol_lexed : (name : Name) → AreBytes name → Lexed (SymbolPhrase name) (symbol_bytes name)
unfolding symbol_bytes name_bytes
symbol_lexed name small = go (is_bare name) refl
  where
    go : (t : Bool) → is_bare name ≡ t → Lexed (SymbolPhrase name) ((64 ∷ []) ++ cond t name (string_bytes name))
    go true e = lexed_as (λ ts h. inl h) (bare_symbol name e)
    go false e = lexed_as (λ ts h. inr h) (lexed (symbol_string_lexed name small))
