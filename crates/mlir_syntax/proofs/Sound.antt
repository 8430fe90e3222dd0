-- Readers whose answers are said by the tokens that they pass.
use Rattle.std.proofs.Common.{◌≡◌, Bool, true, false, cond, List, [], ◌∷◌, ◌++◌, map, Ok, Err, refl, sym, ◌∙◌, ap, subst}
use Rattle.std.proofs.lemmas.List.{append_assoc, map-append}
use Rattle.diag.specs.declared.refusal.Refusal.{Refusal}
use Rattle.mlir_lexer.specs.Tokens.{TextToken}
use Rattle.mlir_syntax.specs.Stream.{StreamToken, token, bad, end, is_first, after}
use Rattle.mlir_syntax.specs.Reads.{Read, Reads, on}
use Rattle.mlir_syntax.specs.Spelling.{Phrase}

-- the tokens between two locations of a text say something
abbrev pub Said : Phrase → List StreamToken → List StreamToken → Type 0
Said P s left = (ts : List TextToken) × (s ≡ map token ts ++ left) × P ts

-- what a reader gives is said by the tokens that it passes
pub record Sound {A : Type 0} (r : Reads A) (P : A → Phrase) : Type 0 where
  pub said : (s left : List StreamToken) (x : A) → r s ≡ Ok (x, left) → Said (P x) s left

-- what says the rest, where the prefix is said so
abbrev pub Reading : Phrase → Phrase → Phrase
Reading P Q ts = (a : List TextToken) → P a → Q (a ++ ts)

-- what says the rest, where a token stands before
abbrev pub Past : TextToken → Phrase → Phrase
Past t Q ts = Q (t ∷ ts)

-- ---- answers

-- an answer of two readers, one after the other
pub ok_of : {A B : Type 0} (m : Read A) (f : A → Reads B) (y : B) (left : List StreamToken) → on m f ≡ Ok (y, left)
    → (x : A) × (s : List StreamToken) × (m ≡ Ok (x, s)) × (f x s ≡ Ok (y, left))
ok_of (Err e) f y left h = absurd cc
ok_of (Ok p) f y left h = (p.0, p.1, refl, h)

pub same_ok : {A : Type 0} (x y : A) (s t : List StreamToken) (R : A → List StreamToken → Type 0) → ◌≡◌ {A = Read A} (Ok (x, s)) (Ok (y, t)) → R x s → R y t
same_ok x y s t R h p = subst (λ (m : Read _). at R m) h p
  where
    at : {A : Type 0} → (A → List StreamToken → Type 0) → Read A → Type 0
    at R (Ok p) = R p.0 p.1
    at R (Err e) = ⊥

pub joined : (s m left : List StreamToken) (a b : List TextToken) → s ≡ map token a ++ m → m ≡ map token b ++ left → s ≡ map token (a ++ b) ++ left
joined s m left a b e f =
    e ∙ ap (λ x. map token a ++ x) f ∙ sym (append_assoc (map token a) (map token b) left) ∙ ap (λ x. x ++ left) (sym (map-append token a b))

-- ---- readers made of readers

pub sound_on : {A B : Type 0} {r : Reads A} {f : A → Reads B} {P : A → Phrase} {Q : B → Phrase} → Sound r P
    → ((x : A) → Sound (f x) (λ y. Reading (P x) (Q y))) → Sound (λ s. on (r s) f) Q
sound_on {r} {f} {P} {Q} first rest = record {
  said = λ s left y h.
      let (x, m, e, g) = ok_of (r s) f y left h in
      let (a, ea, pa) = first.said s m x e in
      let (b, eb, qb) = (rest x).said m left y g in
      (a ++ b, joined s m left a b ea eb, qb a pa);
}

pub sound_last : {A B : Type 0} {r : Reads A} {P : A → Phrase} {Q : B → Phrase} (g : A → B) → Sound r P
    → ((x : A) (ts : List TextToken) → P x ts → Q (g x) ts) → Sound (λ s. on (r s) (λ x left. Ok (g x, left))) Q
sound_last {r} {P} {Q} g first to = record {
  said = λ s left y h.
      let (x, m, e, k) = ok_of (r s) (λ x left. Ok (g x, left)) y left h in
      same_ok (g x) y m left (λ z t. Said (Q z) s t) k (let (a, ea, pa) = first.said s m x e in (a, ea, to x a pa));
}

pub sound_as : {A : Type 0} {r : Reads A} {P Q : A → Phrase} → Sound r P → ((x : A) (ts : List TextToken) → P x ts → Q x ts) → Sound r Q
sound_as first to = record { said = λ s left y h. let (a, ea, pa) = first.said s left y h in (a, ea, to y a pa) }

pub sound_give : {A : Type 0} {y : A} {Q : A → Phrase} → Q y [] → Sound (λ s. Ok (y, s)) Q
sound_give {y} {Q} q = record { said = λ s left x h. same_ok y x s left (λ z t. Said (Q z) s t) h ([], refl, q) }

pub sound_refused : {A : Type 0} {e : List StreamToken → Refusal} {Q : A → Phrase} → Sound (λ s. Err (e s)) Q
sound_refused = record { said = λ s left x h. absurd cc }

if_ok : {A : Type 0} (Q : A → Phrase) (b : Bool) (m n : Read A) (s left : List StreamToken) (x : A) → (m ≡ Ok (x, left) → Said (Q x) s left)
    → (n ≡ Ok (x, left) → Said (Q x) s left) → cond b m n ≡ Ok (x, left) → Said (Q x) s left
if_ok Q true m n s left x f g h = f h
if_ok Q false m n s left x f g h = g h

pub sound_if : {A : Type 0} {r q : Reads A} {Q : A → Phrase} (test : List StreamToken → Bool) → Sound r Q → Sound q Q
    → Sound (λ s. cond (test s) (r s) (q s)) Q
sound_if {r} {q} {Q} test one other = record {
  said = λ s left x h. if_ok Q (test s) (r s) (q s) s left x (λ e. one.said s left x e) (λ e. other.said s left x e) h;
}

pub one_more : (t : TextToken) (s left : List StreamToken) (Q : Phrase) → Said (Past t Q) s left → Said Q (token t ∷ s) left
one_more t s left Q said = let (a, e, p) = said in (t ∷ a, ap (λ x. token t ∷ x) e, p)

past_ok : {A : Type 0} {r q : Reads A} {Q : A → Phrase} (t : TextToken) (ts left : List StreamToken) (x : A) (b : Bool)
    → (b ≡ true → Sound r (λ y. Past t (Q y))) → Sound q Q → cond b (r ts) (q (token t ∷ ts)) ≡ Ok (x, left) → Said (Q x) (token t ∷ ts) left
past_ok {Q = Q} t ts left x true one other h = one_more t ts left (Q x) ((one refl).said ts left x h)
past_ok t ts left x false one other h = other.said (token t ∷ ts) left x h

-- a first token that a test tells, and what stands after it; or else
pub sound_past : {A : Type 0} {test : TextToken → Bool} {r q : Reads A} {Q : A → Phrase}
    → ((t : TextToken) → test t ≡ true → Sound r (λ y. Past t (Q y))) → Sound q Q
    → Sound (λ s. cond (is_first test s) (r (after s)) (q s)) Q
sound_past {test} {r} {q} {Q} one other = record { said = go }
  where
    go : (s left : List StreamToken) (x : _) → cond (is_first test s) (r (after s)) (q s) ≡ Ok (x, left) → Said (Q x) s left
    go [] left x h = other.said [] left x h
    go (token t ∷ ts) left x h = past_ok t ts left x (test t) (one t) other h
    go (bad p ∷ ts) left x h = other.said (bad p ∷ ts) left x h
    go (end p ∷ ts) left x h = other.said (end p ∷ ts) left x h
