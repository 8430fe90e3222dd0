-- What single tokens, numbers and lists say is read of them.
use Rattle.std.proofs.Common.{◌≡◌, ◌⊎◌, ℕ, zero, suc, ◌<◌, ◌≤◌, Bool, true, false, ◌&&◌, cond, nat_lt, List, [], ◌∷◌, ◌++◌, length, map, Ok, refl, sym, ◌∙◌, ap, inl, inr, pos, ℤ, arith}
use Rattle.std.proofs.lemmas.Bool.{eq-eqb, lt-ltb, and_from, and_right}
use Rattle.std.specs.Cmp.Lexicographic.{bytes_decides}
use Rattle.diag.specs.declared.refusal.OpName.{OpName}
use Rattle.hw_model.specs.Types.{Name}
use Rattle.hw_model.specs.Design.{same_name}
use Rattle.mlir_lexer.specs.Contents.{content_of}
use Rattle.mlir_lexer.specs.Tokens.{TextToken}
use Rattle.mlir_lexer.specs.declared.token.TokenKind.{TokenKind}
use Rattle.mlir_lexer.specs.declared.token.TokenKind.TheVariants as kind
use Rattle.mlir_syntax.specs.Stream.{StreamToken, token, is_word, is_first, is_next, after}
use Rattle.mlir_lexer.specs.TokenKinds.{tag, is_kind}
use Rattle.mlir_syntax.specs.Reads.{Reads, want, want_word, items, some_items, items_until}
use Rattle.mlir_syntax.specs.Numerals.{number_of, number_limit, below_limit, number_below, negative, integer}
use Rattle.mlir_syntax.specs.TypeText.{name_text}
use Rattle.mlir_syntax.specs.WordText.{symbol_text}
use Rattle.mlir_syntax.specs.Spelling.{Phrase, One, Mark, Word, Holding, Then, Commas, NamePhrase, SymbolPhrase, NumberPhrase, IntegerPhrase}
use Rattle.mlir_syntax.proofs.Again.{At, at_then, at_one, at_where, at_nothing, at_either, by_either, on_ok, if_true, if_false, Leads, leads_one, leads_then, leads_where, leads_either, starts, shorter, starts_test, Again, Any}

-- ---- tests

pub is_kind_of : {j k : TokenKind} → j ≡ k → is_kind j k ≡ true
is_kind_of {j} {k} e = eq-eqb (tag j) (tag k) (ap tag e)

-- a token is of no such kind
abbrev pub Unlike : TokenKind → TextToken → Type 0
Unlike k t = is_kind t.kind k ≡ false

-- a token of another kind
pub unlike : (k j : TokenKind) → is_kind j k ≡ false → (t : TextToken) → t.kind ≡ j → Unlike k t
unlike k j h t e = ap (λ i. is_kind i k) e ∙ h

false_of : (a b : Bool) → a ≡ false → (a && b) ≡ false
false_of true b h = absurd cc
false_of false b h = refl

pub is_word_of : {name : List ℕ} (t : TextToken) → t.kind ≡ kind.BareName → t.text ≡ name → is_word name t ≡ true
is_word_of {name} t k w = and_from (is_kind t.kind kind.BareName) (same_name t.text name) (is_kind_of k) ((bytes_decides t.text name).1 w)

-- a token of another kind is no word
pub no_word : (name : List ℕ) (j : TokenKind) → is_kind j kind.BareName ≡ false → (t : TextToken) → t.kind ≡ j → is_word name t ≡ false
no_word name j h t e = false_of (is_kind t.kind kind.BareName) (same_name t.text name) (unlike kind.BareName j h t e)

-- a word is no other word
pub other_word : (name text : List ℕ) → same_name text name ≡ false → (t : TextToken) → t.text ≡ text → is_word name t ≡ false
other_word name text h t e = and_right (is_kind t.kind kind.BareName) (same_name t.text name) (ap (λ x. same_name x name) e ∙ h)

-- ---- a token

-- a token of a kind stands first
pub want_at : (op : OpName) {k : TokenKind} {T : TextToken → Type 0} {s left : List StreamToken} → ((t : TextToken) → T t → t.kind ≡ k) → At (One T) s left
    → (t : TextToken) × T t × (want op k s ≡ Ok (t, left))
unfolding want
want_at op {k} to h = let (t, e, p) = at_one h in (t, p, ap (want op k) e ∙ if_true _ (is_kind_of (to t p)) refl)

pub mark_at : (op : OpName) {k : TokenKind} {s left : List StreamToken} → At (Mark k) s left → (t : TextToken) × (want op k s ≡ Ok (t, left))
mark_at op h = let (t, p, e) = want_at op (λ t p. p) h in (t, e)

pub word_at : (op : OpName) {name : List ℕ} {s left : List StreamToken} → At (Word name) s left → (t : TextToken) × (want_word op name s ≡ Ok (t, left))
unfolding want_word
word_at op {name} h = let (t, e, p) = at_one h in (t, ap (want_word op name) e ∙ if_true _ (is_word_of t p.0 p.1) refl)

-- what a token holds
pub holding_at : (op : OpName) {k : TokenKind} {content : List ℕ} {s left : List StreamToken} → At (Holding k content) s left
    → (t : TextToken) × (content_of k t.text ≡ content) × (want op k s ≡ Ok (t, left))
holding_at op h = let (t, p, e) = want_at op (λ t p. p.0) h in (t, p.1, e)

-- a mark stands first, or a token that is of no such kind
pub next_at : {k : TokenKind} {s left : List StreamToken} → At (Mark k) s left → (is_next k s ≡ true) × (after s ≡ left)
next_at h = let (t, e, p) = at_one h in (ap (is_first (λ t. is_kind t.kind _)) e ∙ is_kind_of p, ap after e)

pub no_next : (k : TokenKind) {P : Phrase} {s left : List StreamToken} → Leads (Unlike k) P → At P s left → is_next k s ≡ false
no_next k leads h = starts_test (λ t. is_kind t.kind k) false (λ t p. p) (starts leads h)

pub no_mark : (k : TokenKind) {j : TokenKind} {s left : List StreamToken} → is_kind j k ≡ false → At (Mark j) s left → is_next k s ≡ false
no_mark k {j} other h = no_next k (leads_one (unlike k j other)) h

either_kind : (j k : TokenKind) (t : TextToken) (content : List ℕ) → ((t.kind ≡ j) × (content_of j t.text ≡ content)) ⊎ ((t.kind ≡ k) × (content_of k t.text ≡ content))
    → (cond (is_kind t.kind j) true (is_kind t.kind k) ≡ true) × (content_of t.kind t.text ≡ content)
either_kind j k t content (inl p) = (if_true _ (is_kind_of p.0) refl, ap (λ i. content_of i t.text) p.0 ∙ p.1)
either_kind j k t content (inr p) = (either_true (is_kind t.kind j) (is_kind t.kind k) (is_kind_of p.0), ap (λ i. content_of i t.text) p.0 ∙ p.1)
  where
    either_true : (a b : Bool) → b ≡ true → cond a true b ≡ true
    either_true true b h = refl
    either_true false b h = h

-- one token that is so or so
one_of : {T U : TextToken → Type 0} {s left : List StreamToken} → At (One T) s left ⊎ At (One U) s left → (t : TextToken) × (s ≡ token t ∷ left) × (T t ⊎ U t)
one_of (inl h) = let (t, e, p) = at_one h in (t, e, inl p)
one_of (inr h) = let (t, e, p) = at_one h in (t, e, inr p)

pub again_name : (op : OpName) → Again Any (name_text op) NamePhrase
unfolding name_text
again_name op = record {
  gives = λ x s left h _.
      let (t, e, p) = one_of (at_either h) in
      let (b, c) = either_kind kind.BareName kind.StringLiteral t x p in
      ap (name_text op) e ∙ if_true _ b (ap (λ y. Ok (y, left)) c);
}

pub again_symbol : (op : OpName) → Again Any (symbol_text op) SymbolPhrase
unfolding symbol_text
again_symbol op = record {
  gives = λ x s left h _.
      let (t, e, p) = one_of (at_either h) in
      let (b, c) = either_kind kind.SymbolName kind.SymbolString t x p in
      ap (symbol_text op) e ∙ if_true _ b (ap (λ y. Ok (y, left)) c);
}

pub leads_holding : {T : TextToken → Type 0} {k : TokenKind} {content : List ℕ} → ((t : TextToken) → t.kind ≡ k → T t) → Leads T (Holding k content)
leads_holding to = leads_one (λ t p. to t p.0)

pub leads_name : {T : TextToken → Type 0} {name : Name} → ((t : TextToken) → t.kind ≡ kind.BareName → T t) → ((t : TextToken) → t.kind ≡ kind.StringLiteral → T t)
    → Leads T (NamePhrase name)
leads_name bare quoted = leads_either (leads_holding bare) (leads_holding quoted)

-- a name is no such token
pub name_unlike : (k : TokenKind) {name : Name} → is_kind kind.BareName k ≡ false → is_kind kind.StringLiteral k ≡ false → Leads (Unlike k) (NamePhrase name)
name_unlike k bare quoted = leads_name (unlike k kind.BareName bare) (unlike k kind.StringLiteral quoted)

pub leads_symbol : {T : TextToken → Type 0} {name : Name} → ((t : TextToken) → t.kind ≡ kind.SymbolName → T t) → ((t : TextToken) → t.kind ≡ kind.SymbolString → T t)
    → Leads T (SymbolPhrase name)
leads_symbol bare quoted = leads_either (leads_holding bare) (leads_holding quoted)

-- ---- numbers

pub limited_is : (limit : ℕ) (op : OpName) (s left : List StreamToken) (n m : ℕ) → n < limit → m ≡ n → below_limit limit op s m left ≡ Ok (n, left)
unfolding below_limit
limited_is limit op s left n m small e = if_true _ (ap (λ x. nat_lt x limit) e ∙ lt-ltb n limit small) (ap (λ x. Ok (x, left)) e)

pub again_number : (limit : ℕ) (op : OpName) → Again Any (number_below limit op) (NumberPhrase limit)
unfolding number_below
again_number limit op = record {
  gives = λ n s left h _.
      let (small, one) = at_where h in
      let (t, p, e) = want_at op {k = kind.Integer} (λ t p. p.0) one in
      on_ok _ e (limited_is limit op s left n (number_of t.text) small p.1);
}

pub leads_number : {T : TextToken → Type 0} {limit n : ℕ} → ((t : TextToken) → t.kind ≡ kind.Integer → T t) → Leads T (NumberPhrase limit n)
leads_number to = leads_where (leads_one (λ t p. to t p.0))

pub leads_integer : {T : TextToken → Type 0} {z : ℤ} → ((t : TextToken) → t.kind ≡ kind.Integer → T t) → ((t : TextToken) → t.kind ≡ kind.Minus → T t)
    → Leads T (IntegerPhrase z)
leads_integer plain minus = record {
  lead = λ ts p. by_either
      (λ h. (leads_number plain).lead ts h.2)
      (λ h. (leads_then (leads_one minus)).lead ts h.2) p;
}

-- what an integer begins with
abbrev pub BeginsInteger : TextToken → Type 0
BeginsInteger t = (t.kind ≡ kind.Integer) ⊎ (t.kind ≡ kind.Minus)

pub integer_begins : (z : ℤ) → Leads BeginsInteger (IntegerPhrase z)
integer_begins z = leads_integer {T = BeginsInteger} (λ t k. inl k) (λ t k. inr k)

positive_at : (op : OpName) {z : ℤ} {s left : List StreamToken} (n : ℕ) → z ≡ pos n → At (NumberPhrase number_limit n) s left → integer op s ≡ Ok (z, left)
unfolding integer
positive_at op {z} {s} {left} n e h =
    if_false _ (no_next kind.Minus (leads_number (unlike kind.Minus kind.Integer refl)) h)
    (on_ok _ ((again_number number_limit op).gives n s left h tt) (ap (λ x. Ok (x, left)) (sym e)))

negative_at : (op : OpName) {z : ℤ} {s left : List StreamToken} (n : ℕ) → z ≡ negative n → At (Then (Mark kind.Minus) (NumberPhrase number_limit n)) s left
    → integer op s ≡ Ok (z, left)
unfolding integer
negative_at op {z} {s} {left} n e h =
    let (m, minus, digits) = at_then h in
    let (next, following) = next_at minus in
    if_true _ next (on_ok _ (ap (number_below number_limit op) following ∙ (again_number number_limit op).gives n m left digits tt) (ap (λ x. Ok (x, left)) (sym e)))

integer_at : (op : OpName) {z : ℤ} {s left : List StreamToken} (ts : List TextToken) → s ≡ map token ts ++ left → IntegerPhrase z ts → integer op s ≡ Ok (z, left)
integer_at op ts e (inl p) = positive_at op p.0 p.1 (record { passed = ts; same = e; says = p.2 })
integer_at op ts e (inr p) = negative_at op p.0 p.1 (record { passed = ts; same = e; says = p.2 })

pub again_integer : (op : OpName) → Again Any (integer op) IntegerPhrase
again_integer op = record { gives = λ z s left h _. integer_at op h.passed h.same h.says }

-- ---- lists

-- what may stand after an item: a comma may
abbrev pub MayComma : (List StreamToken → Type 0) → Type 0
MayComma F = (s left : List StreamToken) → At (Mark kind.Comma) s left → F s

items_again : {A : Type 0} {item : Reads A} {P : A → Phrase} {F : List StreamToken → Type 0} {T : TextToken → Type 0} (op : OpName) → Again F item P → ((x : A) → Leads T (P x)) → MayComma F
    → (n : ℕ) (x : A) (xs : List A) (s left : List StreamToken) → At (Commas P (x ∷ xs)) s left → F left → is_next kind.Comma left ≡ false → length s ≤ n
    → items op item n s ≡ Ok (x ∷ xs, left)
unfolding items
items_again op one lead comma zero x [] s left h f clear le = let short = shorter (lead x) h in absurd (omega (arith, short, le))
items_again op one lead comma (suc n) x [] s left h f clear le =
    on_ok _ (one.gives x s left h f) (if_false _ clear refl)
items_again {P = P} op one lead comma zero x (y ∷ ys) s left h f clear le =
    let (m, a, b) = at_then h in let short = shorter (lead x) a in absurd (omega (arith, short, le))
items_again {item = item} {P = P} op one lead comma (suc n) x (y ∷ ys) s left h f clear le =
    let (m, a, b) = at_then h in
    let (k, c, d) = at_then b in
    let (next, following) = next_at c in
    let short = shorter (lead x) a in
    let short2 = shorter (leads_one {U = λ _. Unit {0}} (λ t p. tt)) c in
    on_ok _ (one.gives x s m a (comma m k c))
    (if_true _ next (on_ok _ (ap (items op item n) following ∙ items_again op one lead comma n y ys k left d f clear (omega (arith, short, short2, le))) refl))

pub again_some : {A : Type 0} {item : Reads A} {P : A → Phrase} {F : List StreamToken → Type 0} {T : TextToken → Type 0} (op : OpName) → Again F item P → ((x : A) → Leads T (P x)) → MayComma F
    → (x : A) (xs : List A) (s left : List StreamToken) → At (Commas P (x ∷ xs)) s left → F left → is_next kind.Comma left ≡ false
    → some_items op item s ≡ Ok (x ∷ xs, left)
again_some op one lead comma x xs s left h f clear = items_again op one lead comma (length s) x xs s left h f clear (omega arith)

pub leads_commas : {A : Type 0} (P : A → Phrase) {T : TextToken → Type 0} (x : A) (xs : List A) → Leads T (P x) → Leads T (Commas P (x ∷ xs))
leads_commas P x [] one = one
leads_commas P x (y ∷ ys) one = leads_then one

-- items up to a closing mark, which may stand after an item and begins none
pub until_at : {A : Type 0} {item : Reads A} {P : A → Phrase} {F : List StreamToken → Type 0} (op : OpName) (close : TokenKind) → Again F item P → ((x : A) → Leads (Unlike close) (P x))
    → MayComma F → ((s left : List StreamToken) → At (Mark close) s left → F s) → is_kind close kind.Comma ≡ false
    → (xs : List A) {s left : List StreamToken} → At (Then (Commas P xs) (Mark close)) s left → items_until op close item s ≡ Ok (xs, left)
unfolding items_until
until_at op close one lead comma closing other [] {s} {left} h =
    let (m, a, b) = at_then h in
    let same = at_nothing a in
    let (next, following) = next_at b in
    if_true _ (ap (is_next close) same ∙ next) (ap (λ x. Ok ([], x)) (ap after same ∙ following))
until_at {P = P} op close one lead comma closing other (x ∷ xs) {s} {left} h =
    let (m, a, b) = at_then h in
    let (t, e) = mark_at op b in
    if_false _ (no_next close (leads_commas P x xs (lead x)) a)
    (on_ok _ (again_some op one lead comma x xs s m a (closing m left b) (no_mark kind.Comma other b)) (on_ok _ e refl))
