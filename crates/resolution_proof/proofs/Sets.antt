-- Literals, and sets of them as lists.
use Rattle.std.proofs.Common.{◌≡◌, ℕ, Bool, true, false, not, ◌&&◌, ◌||◌, cond, List, [], ◌∷◌, ◌++◌, ◌≤◌, leb, eqb, refl, sym, ◌∙◌, ap, subst, inl, inr}
use Rattle.std.proofs.Math.Bool.{beq}
use Rattle.std.specs.List.{list_all, list_any}
use Rattle.std.proofs.lemmas.Bool.{eqb-true, eq-eqb, and_parts, and_from, or_cases, or_left, or_right, false≢true, true≢false, not-true, both_ways, leb-true}
use Rattle.resolution_proof.specs.declared.literal.Literal.{Literal}
use Rattle.resolution_proof.specs.Literal.{negation, same, is_on, holds, mentions, is_once}
use Rattle.resolution_proof.specs.Clause.{is_among, without, resolvent}

pub beq-true : (a b : Bool) → beq a b ≡ true → a ≡ b
beq-true true true h = refl
beq-true true false h = absurd (false≢true h)
beq-true false true h = absurd (false≢true h)
beq-true false false h = refl

pub beq-refl : (a : Bool) → beq a a ≡ true
beq-refl true = refl
beq-refl false = refl

pub not-not : (b : Bool) → not (not b) ≡ b
not-not true = refl
not-not false = refl

-- a literal is its parts
pub literal_ext : (a b : Literal) → a.variable ≡ b.variable → a.positive ≡ b.positive → a ≡ b
literal_ext a b p q =
    let first : ℕ → Literal = λ v. record { variable = v; positive = a.positive } in
    let second : Bool → Literal = λ s. record { variable = b.variable; positive = s } in
    ap first p ∙ ap second q

pub same-true : (a b : Literal) → same a b ≡ true → a ≡ b
same-true a b h =
    let both = and_parts (eqb a.variable b.variable) (beq a.positive b.positive) h in
    literal_ext a b (eqb-true a.variable b.variable both.0) (beq-true a.positive b.positive both.1)

pub same-refl : (a : Literal) → same a a ≡ true
same-refl a = and_from (eqb a.variable a.variable) (beq a.positive a.positive) (eq-eqb a.variable a.variable refl) (beq-refl a.positive)

pub negation-negation : (a : Literal) → negation (negation a) ≡ a
negation-negation a = literal_ext (negation (negation a)) a refl (not-not a.positive)

-- a fact of each element of a set holds of each literal that the set holds
pub all_at : (p : Literal → Bool) (xs : List Literal) (l : Literal) → list_all p xs ≡ true → holds xs l ≡ true → p l ≡ true
all_at p [] l h e = absurd (false≢true e)
all_at p (x ∷ xs) l h e =
    let both = and_parts (p x) (list_all p xs) h in
    elim (or_cases (same x l) (holds xs l) e) as (λ _. p l ≡ true) [
      | inl here ↦ subst (λ (y : Literal). p y ≡ true) (same-true x l here) both.0
      | inr there ↦ all_at p xs l both.1 there
    ]

-- and the other way round
pub all_from : (p : Literal → Bool) (xs : List Literal) → ((l : Literal) → holds xs l ≡ true → p l ≡ true) → list_all p xs ≡ true
all_from p [] f = refl
all_from p (x ∷ xs) f =
    and_from (p x) (list_all p xs)
    (f x (or_left (same x x) (holds xs x) (same-refl x)))
    (all_from p xs (λ l e. f l (or_right (same x l) (holds xs l) e)))

-- a test that some literal of the set passes
pub any_from : (p : Literal → Bool) (xs : List Literal) (l : Literal) → holds xs l ≡ true → p l ≡ true → list_any p xs ≡ true
any_from p [] l e h = absurd (false≢true e)
any_from p (x ∷ xs) l e h =
    elim (or_cases (same x l) (holds xs l) e) as (λ _. list_any p (x ∷ xs) ≡ true) [
      | inl here ↦ or_left (p x) (list_any p xs) (subst (λ (y : Literal). p y ≡ true) (sym (same-true x l here)) h)
      | inr there ↦ or_right (p x) (list_any p xs) (any_from p xs l there h)
    ]

pub any_at : (p : Literal → Bool) (xs : List Literal) → list_any p xs ≡ true → (l : Literal) × (holds xs l ≡ true) × (p l ≡ true)
any_at p [] h = absurd (false≢true h)
any_at p (x ∷ xs) h =
    elim (or_cases (p x) (list_any p xs) h) as (λ _. (l : Literal) × (holds (x ∷ xs) l ≡ true) × (p l ≡ true)) [
      | inl here ↦ (x, or_left (same x x) (holds xs x) (same-refl x), here)
      | inr there ↦ let r = any_at p xs there in (r.0, or_right (same x r.0) (holds xs r.0) r.1, r.2)
    ]

pub mentions_from : (s : List Literal) (l : Literal) → holds s l ≡ true → mentions s l.variable ≡ true
mentions_from s l h = any_from (is_on l.variable) s l h (eq-eqb l.variable l.variable refl)

pub holds_from_mentions : (s : List Literal) (v : ℕ) → mentions s v ≡ true → (l : Literal) × (holds s l ≡ true) × (l.variable ≡ v)
holds_from_mentions s v h = let r = any_at (is_on v) s h in (r.0, r.1, eqb-true (r.0).variable v r.2)

-- a set with no variable twice has one literal of a variable
pub once_same : (s : List Literal) (a b : Literal) → is_once s ≡ true → holds s a ≡ true → holds s b ≡ true → a.variable ≡ b.variable → a ≡ b
once_same [] a b o ha hb e = absurd (false≢true ha)
once_same (x ∷ xs) a b o ha hb e =
    let both = and_parts (not (mentions xs x.variable)) (is_once xs) o in
    let absent = not-true (mentions xs x.variable) both.0 in
    elim (or_cases (same x a) (holds xs a) ha) as (λ _. a ≡ b) [
      | inl a_here ↦ elim (or_cases (same x b) (holds xs b) hb) as (λ _. a ≡ b) [
        | inl b_here ↦ sym (same-true x a a_here) ∙ same-true x b b_here
        | inr b_there ↦
            let at : mentions xs x.variable ≡ true = subst (λ (v : ℕ). mentions xs v ≡ true) (sym e ∙ sym (ap (λ (y : Literal). y.variable) (same-true x a a_here))) (mentions_from xs b b_there) in
            absurd (both_ways (mentions xs x.variable) absent at)
      ]
      | inr a_there ↦ elim (or_cases (same x b) (holds xs b) hb) as (λ _. a ≡ b) [
        | inl b_here ↦
            let at : mentions xs x.variable ≡ true = subst (λ (v : ℕ). mentions xs v ≡ true) (e ∙ sym (ap (λ (y : Literal). y.variable) (same-true x b b_here))) (mentions_from xs a a_there) in
            absurd (both_ways (mentions xs x.variable) absent at)
        | inr b_there ↦ once_same xs a b both.1 a_there b_there e
      ]
    ]

-- a set with no variable twice does not hold a literal and its negation
pub once_apart : (s : List Literal) (l : Literal) → is_once s ≡ true → holds s l ≡ true → holds s (negation l) ≡ true → ⊥
once_apart s l o h n =
    let e : l ≡ negation l = once_same s l (negation l) o h n refl in
    differs l.positive (ap (λ (y : Literal). y.positive) e)
  where
    differs : (b : Bool) → b ≡ not b → ⊥
    differs true e = true≢false e
    differs false e = false≢true e

pub holds-without : (p : ℕ) (c : List Literal) (l : Literal) → holds (without p c) l ≡ (not (is_on p l) && holds c l)
holds-without p [] l = go (not (is_on p l))
  where
    go : (b : Bool) → false ≡ (b && false)
    go true = refl
    go false = refl
holds-without p (x ∷ xs) l = go (is_on p x) refl (holds-without p xs l)
  where
    off : (b : Bool) (o h s : Bool) → (s ≡ true → o ≡ true) → h ≡ (not o && s) → h ≡ (not o && s)
    off b o h s f e = e

    go : (b : Bool) → is_on p x ≡ b → holds (without p xs) l ≡ (not (is_on p l) && holds xs l) → holds (cond (not b) (x ∷ without p xs) (without p xs)) l ≡ (not (is_on p l) && (same x l || holds xs l))
    go true e ih = ih ∙ step (same x l) refl
      where
        step : (s : Bool) → same x l ≡ s → (not (is_on p l) && holds xs l) ≡ (not (is_on p l) && (s || holds xs l))
        step true h =
            let on : is_on p l ≡ true = subst (λ (y : Literal). is_on p y ≡ true) (same-true x l h) e in
            rw on refl
        step false h = refl
    go false e ih = ap (λ (b : Bool). same x l || b) ih ∙ step (same x l) refl
      where
        step : (s : Bool) → same x l ≡ s → (s || (not (is_on p l) && holds xs l)) ≡ (not (is_on p l) && (s || holds xs l))
        step true h =
            let on : is_on p l ≡ false = subst (λ (y : Literal). is_on p y ≡ false) (same-true x l h) e in
            rw on refl
        step false h = refl

pub holds-append : (a b : List Literal) (l : Literal) → holds (a ++ b) l ≡ (holds a l || holds b l)
holds-append [] b l = refl
holds-append (x ∷ xs) b l = ap (λ (t : Bool). same x l || t) (holds-append xs b l) ∙ assoc (same x l) (holds xs l) (holds b l)
  where
    assoc : (x y z : Bool) → (x || (y || z)) ≡ ((x || y) || z)
    assoc true y z = refl
    assoc false y z = refl

pub holds-resolvent : (p : ℕ) (a b : List Literal) (l : Literal) → holds (resolvent p a b) l ≡ (not (is_on p l) && (holds a l || holds b l))
holds-resolvent p a b l = holds-append (without p a) (without p b) l ∙ joined (holds-without p a l) (holds-without p b l)
  where
    spread : (n x y : Bool) → ((n && x) || (n && y)) ≡ (n && (x || y))
    spread true x y = refl
    spread false x y = refl

    joined : holds (without p a) l ≡ (not (is_on p l) && holds a l) → holds (without p b) l ≡ (not (is_on p l) && holds b l) → (holds (without p a) l || holds (without p b) l) ≡ (not (is_on p l) && (holds a l || holds b l))
    joined e f = rw (e, f) (spread (not (is_on p l)) (holds a l) (holds b l))

-- a variable among the first ones
pub among_low : (variables : ℕ) (l : Literal) → is_among variables l ≡ true → 1 ≤ l.variable
among_low variables l h = leb-true 1 l.variable ((and_parts (leb 1 l.variable) (leb l.variable variables) h).0)

pub among_high : (variables : ℕ) (l : Literal) → is_among variables l ≡ true → l.variable ≤ variables
among_high variables l h = leb-true l.variable variables ((and_parts (leb 1 l.variable) (leb l.variable variables) h).1)
