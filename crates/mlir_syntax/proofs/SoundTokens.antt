-- What is read of single tokens, of numbers and of lists is said by them.
use Rattle.std.proofs.Common.{◌≡◌, ◌⊎◌, ℕ, zero, suc, ◌<◌, Bool, true, false, cond, nat_lt, List, [], ◌∷◌, ◌++◌, length, Ok, Err, refl, sym, ◌∙◌, ap, subst, inl, inr, pos}
use Rattle.std.proofs.lemmas.Bool.{eqb-true, ltb-true, and_parts}
use Rattle.std.proofs.lemmas.List.{append-nil}
use Rattle.std.specs.Cmp.Lexicographic.{bytes_decides}
use Rattle.diag.specs.declared.refusal.Refusal.{Refusal}
use Rattle.diag.specs.declared.refusal.OpName.{OpName}
use Rattle.hw_model.specs.Design.{same_name}
use Rattle.mlir_lexer.specs.Contents.{content_of}
use Rattle.mlir_lexer.specs.Tokens.{TextToken}
use Rattle.mlir_lexer.specs.declared.token.TokenKind.{TokenKind}
use Rattle.mlir_lexer.specs.declared.token.TokenKind.TheVariants as kind
use Rattle.mlir_syntax.specs.Stream.{StreamToken, token, bad, end, is_word, refusal_at}
use Rattle.mlir_lexer.specs.TokenKinds.{tag, is_kind}
use Rattle.mlir_syntax.specs.Reads.{Read, Reads, give, want, want_word, items, some_items, items_until}
use Rattle.mlir_syntax.specs.Numerals.{number_of, number_limit, below_limit, number_below, negative, integer}
use Rattle.mlir_syntax.specs.TypeText.{is_name, name_text}
use Rattle.mlir_syntax.specs.AttributeText.{is_symbol}
use Rattle.mlir_syntax.specs.WordText.{symbol_text}
use Rattle.mlir_syntax.specs.Spelling.{Phrase, One, Mark, Word, Holding, Then, Commas, NamePhrase, SymbolPhrase, NumberPhrase, IntegerPhrase}
use Rattle.mlir_syntax.proofs.Sound.{Said, Sound, ok_of, same_ok, sound_on, sound_last, sound_give, sound_past}

-- ---- words of the grammar

pub pair : {P Q : Phrase} (a b : List TextToken) → P a → Q b → Then P Q (a ++ b)
pair a b p q = (a, b, refl, p, q)

-- a token that is known, and it is so
abbrev pub Only : (TextToken → Type 0) → TextToken → Phrase
Only P t ts = (ts ≡ t ∷ []) × P t

abbrev pub IsOf : TokenKind → TextToken → Type 0
IsOf k t = t.kind ≡ k

pub mark : {P : TextToken → Type 0} {t : TextToken} {ts : List TextToken} → Only P t ts → One P ts
mark {t} p = (t, p.0, p.1)

-- ---- tests

kinds : List TokenKind
kinds =
    kind.BareName ∷ kind.ValueName ∷ kind.SymbolName ∷ kind.SymbolString ∷ kind.Integer ∷ kind.StringLiteral ∷ kind.ResultNumber ∷ kind.AttributeAlias
    ∷ kind.TypeName ∷ kind.Arrow ∷ kind.LeftParenthesis ∷ kind.RightParenthesis ∷ kind.LeftBrace ∷ kind.RightBrace ∷ kind.LeftBracket
    ∷ kind.RightBracket ∷ kind.Less ∷ kind.Greater ∷ kind.Colon ∷ kind.Comma ∷ kind.Equals ∷ kind.Minus ∷ []

nth : List TokenKind → ℕ → TokenKind
nth [] n = kind.Minus
nth (k ∷ ks) zero = k
nth (k ∷ ks) (suc n) = nth ks n

kind_of : ℕ → TokenKind
kind_of n = nth kinds n

kind_back : (k : TokenKind) → kind_of (tag k) ≡ k
unfolding kind_of nth kinds
kind_back kind.BareName = refl
kind_back kind.ValueName = refl
kind_back kind.SymbolName = refl
kind_back kind.SymbolString = refl
kind_back kind.Integer = refl
kind_back kind.StringLiteral = refl
kind_back kind.ResultNumber = refl
kind_back kind.AttributeAlias = refl
kind_back kind.TypeName = refl
kind_back kind.Arrow = refl
kind_back kind.LeftParenthesis = refl
kind_back kind.RightParenthesis = refl
kind_back kind.LeftBrace = refl
kind_back kind.RightBrace = refl
kind_back kind.LeftBracket = refl
kind_back kind.RightBracket = refl
kind_back kind.Less = refl
kind_back kind.Greater = refl
kind_back kind.Colon = refl
kind_back kind.Comma = refl
kind_back kind.Equals = refl
kind_back kind.Minus = refl

pub kind_is : (a b : TokenKind) → is_kind a b ≡ true → a ≡ b
kind_is a b h = sym (kind_back a) ∙ ap kind_of (eqb-true (tag a) (tag b) h) ∙ kind_back b

pub word_is : (name : List ℕ) (t : TextToken) → is_word name t ≡ true → (t.kind ≡ kind.BareName) × (t.text ≡ name)
word_is name t h =
    let (k, w) = and_parts (is_kind t.kind kind.BareName) (same_name t.text name) h in
    (kind_is t.kind kind.BareName k, (bytes_decides t.text name).0 w)

pub said_word : {name : List ℕ} {t : TextToken} → is_word name t ≡ true → Word name (t ∷ [])
said_word {name} {t} h = (t, refl, word_is name t h)

pub said_mark : {k : TokenKind} {t : TextToken} → is_kind t.kind k ≡ true → Mark k (t ∷ [])
said_mark {k} {t} h = (t, refl, kind_is t.kind k h)

-- ---- a token

pub token_ok : {A : Type 0} (Q : A → Phrase) (b : Bool) (t : TextToken) (ts left : List StreamToken) (y x : A) (e : Refusal) → (b ≡ true → Q y (t ∷ []))
    → cond {A = Read A} b (Ok (y, ts)) (Err e) ≡ Ok (x, left) → Said (Q x) (token t ∷ ts) left
token_ok Q true t ts left y x e q h = same_ok y x ts left (λ z l. Said (Q z) (token t ∷ ts) l) h (t ∷ [], refl, q refl)
token_ok Q false t ts left y x e q h = absurd cc

-- what a test lets through
pub kept_ok : {A : Type 0} (R : A → List StreamToken → Type 0) (b : Bool) (z x : A) (m left : List StreamToken) (e : Refusal) → (b ≡ true → R z m)
    → cond {A = Read A} b (Ok (z, m)) (Err e) ≡ Ok (x, left) → R x left
kept_ok R true z x m left e r h = same_ok z x m left R h (r refl)
kept_ok R false z x m left e r h = absurd cc

pub barred_ok : {A : Type 0} (R : A → List StreamToken → Type 0) (b : Bool) (z x : A) (m left : List StreamToken) (e : Refusal) → (b ≡ false → R z m)
    → cond {A = Read A} b (Err e) (Ok (z, m)) ≡ Ok (x, left) → R x left
barred_ok R true z x m left e r h = absurd cc
barred_ok R false z x m left e r h = same_ok z x m left R h (r refl)

want_ok : (op : OpName) (k : TokenKind) (s left : List StreamToken) (x : TextToken) → want op k s ≡ Ok (x, left) → Said (Only (IsOf k) x) s left
unfolding want
want_ok op k [] left x h = absurd cc
want_ok op k (token t ∷ ts) left x h = token_ok (Only (IsOf k)) (is_kind t.kind k) t ts left t x _ (λ e. (refl, kind_is t.kind k e)) h
want_ok op k (bad p ∷ ts) left x h = absurd cc
want_ok op k (end p ∷ ts) left x h = absurd cc

pub sound_want : (op : OpName) (k : TokenKind) → Sound (want op k) (Only (IsOf k))
sound_want op k = record { said = want_ok op k }

word_ok : (op : OpName) (name : List ℕ) (s left : List StreamToken) (x : TextToken) → want_word op name s ≡ Ok (x, left) → Said (Word name) s left
unfolding want_word
word_ok op name [] left x h = absurd cc
word_ok op name (token t ∷ ts) left x h = token_ok (λ _. Word name) (is_word name t) t ts left t x _ said_word h
word_ok op name (bad p ∷ ts) left x h = absurd cc
word_ok op name (end p ∷ ts) left x h = absurd cc

pub sound_word : (op : OpName) (name : List ℕ) → Sound (want_word op name) (λ _. Word name)
sound_word op name = record { said = word_ok op name }

-- what a token of one of two kinds holds
holds : (k : TokenKind) (t : TextToken) → is_kind t.kind k ≡ true → Holding k (content_of t.kind t.text) (t ∷ [])
holds k t h = let e = kind_is t.kind k h in (t, refl, (e, ap (λ j. content_of j t.text) (sym e)))

pub either_holds : (a b : TokenKind) (t : TextToken) (test : Bool) → is_kind t.kind a ≡ test → cond test true (is_kind t.kind b) ≡ true
    → Holding a (content_of t.kind t.text) (t ∷ []) ⊎ Holding b (content_of t.kind t.text) (t ∷ [])
either_holds a b t true e h = inl (holds a t e)
either_holds a b t false e h = inr (holds b t h)

name_ok : (op : OpName) (s left : List StreamToken) (x : List ℕ) → name_text op s ≡ Ok (x, left) → Said (NamePhrase x) s left
unfolding name_text
name_ok op [] left x h = absurd cc
name_ok op (token t ∷ ts) left x h =
    token_ok NamePhrase (is_name t) t ts left (content_of t.kind t.text) x _ (λ e. either_holds kind.BareName kind.StringLiteral t (is_kind t.kind kind.BareName) refl e) h
name_ok op (bad p ∷ ts) left x h = absurd cc
name_ok op (end p ∷ ts) left x h = absurd cc

pub sound_name : (op : OpName) → Sound (name_text op) NamePhrase
sound_name op = record { said = name_ok op }

symbol_ok : (op : OpName) (s left : List StreamToken) (x : List ℕ) → symbol_text op s ≡ Ok (x, left) → Said (SymbolPhrase x) s left
unfolding symbol_text
symbol_ok op [] left x h = absurd cc
symbol_ok op (token t ∷ ts) left x h =
    token_ok SymbolPhrase (is_symbol t) t ts left (content_of t.kind t.text) x _ (λ e. either_holds kind.SymbolName kind.SymbolString t (is_kind t.kind kind.SymbolName) refl e) h
symbol_ok op (bad p ∷ ts) left x h = absurd cc
symbol_ok op (end p ∷ ts) left x h = absurd cc

pub sound_symbol : (op : OpName) → Sound (symbol_text op) SymbolPhrase
sound_symbol op = record { said = symbol_ok op }

-- ---- numbers

pub limited_ok : (limit : ℕ) (op : OpName) (s m left : List StreamToken) (n x : ℕ) (R : ℕ → List StreamToken → Type 0) → (n < limit → R n m)
    → below_limit limit op s n m ≡ Ok (x, left) → R x left
unfolding below_limit
limited_ok limit op s m left n x R r h = go (nat_lt n limit) refl h
  where
    go : (b : Bool) → nat_lt n limit ≡ b → cond {A = Read ℕ} b (Ok (n, m)) (Err (refusal_at Rattle.diag.specs.declared.cause.Cause.TheVariants.NumberTooLarge op s)) ≡ Ok (x, left) → R x left
    go true e h = same_ok n x m left R h (r (ltb-true n limit e))
    go false e h = absurd cc

number_ok : (limit : ℕ) (op : OpName) (s left : List StreamToken) (n : ℕ) → number_below limit op s ≡ Ok (n, left) → Said (NumberPhrase limit n) s left
unfolding number_below
number_ok limit op s left n h =
    let (t, m, e, k) = ok_of (want op kind.Integer s) (λ t left. below_limit limit op s (number_of t.text) left) n left h in
    let (a, ea, p) = (sound_want op kind.Integer).said s m t e in
    limited_ok limit op s m left (number_of t.text) n (λ z l. Said (NumberPhrase limit z) s l) (λ small. (a, ea, (small, (t, p.0, (p.1, refl))))) k

pub sound_number : (limit : ℕ) (op : OpName) → Sound (number_below limit op) (NumberPhrase limit)
sound_number limit op = record { said = number_ok limit op }

pub sound_integer : (op : OpName) → Sound (integer op) IntegerPhrase
unfolding integer
sound_integer op =
    sound_past (λ t h. sound_last negative (sound_number number_limit op) (λ n ts p. inr (n, refl, pair (t ∷ []) ts (said_mark h) p)))
    (sound_last pos (sound_number number_limit op) (λ n ts p. inl (n, refl, p)))

-- ---- lists

-- one item or more
abbrev pub Several : {A : Type 0} → (A → Phrase) → List A → Phrase
Several P [] ts = ⊥
Several P (x ∷ xs) ts = Commas P (x ∷ xs) ts

pub more : {A : Type 0} (P : A → Phrase) (x : A) (t : TextToken) (xs : List A) (ts a : List TextToken) → is_kind t.kind kind.Comma ≡ true → Several P xs ts → P x a
    → Several P (x ∷ xs) (a ++ (t ∷ ts))
more P x t [] ts a h p q = absurd p
more P x t (y ∷ ys) ts a h p q = (a, t ∷ ts, refl, q, (t ∷ [], ts, refl, said_mark h, p))

pub all_of : {A : Type 0} (P : A → Phrase) (xs : List A) (ts : List TextToken) → Several P xs ts → Commas P xs ts
all_of P [] ts p = absurd p
all_of P (x ∷ xs) ts p = p

sound_items : {A : Type 0} {item : Reads A} {P : A → Phrase} (op : OpName) → Sound item P → (n : ℕ) → Sound (items op item n) (Several P)
unfolding items
sound_items op one zero = record { said = λ s left x h. absurd cc }
sound_items {P = P} op one (suc n) =
    sound_on one (λ x. sound_past (λ t h. sound_last (λ xs. x ∷ xs) (sound_items op one n) (λ xs ts p a q. more P x t xs ts a h p q))
    (sound_give (λ a q. subst (P x) (sym (append-nil a)) q)))

pub sound_some : {A : Type 0} {item : Reads A} {P : A → Phrase} (op : OpName) → Sound item P → Sound (some_items op item) (Several P)
sound_some op one = record { said = λ s left x h. (sound_items op one (length s)).said s left x h }

pub sound_until : {A : Type 0} {item : Reads A} {P : A → Phrase} (op : OpName) (close : TokenKind) → Sound item P
    → Sound (items_until op close item) (λ xs. Then (Commas P xs) (Mark close))
unfolding items_until
sound_until {P = P} op close one =
    sound_past {r = give []} (λ t h. sound_give {y = []} ([], t ∷ [], refl, refl, said_mark h))
    (sound_on (sound_some op one) (λ xs. sound_last (λ _. xs) (sound_want op close) (λ m ts p a q. pair a ts (all_of P xs a q) (mark p))))
