-- Reading a clause under a set of literals, one literal after another.
use Rattle.std.proofs.Common.{◌≡◌, ℕ, ◌+◌, ◌<◌, ◌≤◌, Bool, true, false, not, ◌&&◌, ◌||◌, cond, List, [], ◌∷◌, ◌++◌, length, get_or, take, drop, leb, refl, sym, ◌∙◌, ap, subst, inl, inr, ◌⊎◌, arith, Option, Some, None, is_some}
use Rattle.std.specs.List.{list_all, list_any}
use Rattle.std.proofs.lemmas.List.{take_more, take_all, take-append-drop}
use Rattle.std.proofs.lemmas.List.Folds.{list_all-append, list_any_at}
use Rattle.std.proofs.lemmas.Bool.{and_parts, and_from, or_left, or_right, false≢true, true≢false, le-leb, both_ways, not_from_false, false_from_ne_true}
use Rattle.resolution_proof.specs.declared.literal.Literal.{Literal}
use Rattle.resolution_proof.specs.Literal.{negation, same, holds, mentions}
use Rattle.resolution_proof.specs.Fresh.{is_free, count_free, is_closed_at, is_unit}
use Rattle.clause_learning.specs.Trail.{value_of}
use Rattle.clause_learning.specs.Learning.{falsifies}
use Rattle.clause_learning.specs.Propagation.{IsScan}
use Rattle.resolution_proof.proofs.Sets.{same-refl, literal_ext, holds_from_mentions, holds-append}

value_cases : (h n : Bool) (r : Option Bool) → r ≡ cond h (Some true) (cond n (Some false) None) → ((r ≡ Some true) × (h ≡ true)) ⊎ (((r ≡ Some false) × (h ≡ false) × (n ≡ true)) ⊎ ((r ≡ None) × (h ≡ false) × (n ≡ false)))
value_cases true n r e = inl (e, refl)
value_cases false true r e = inr (inl (e, refl, refl))
value_cases false false r e = inr (inr (e, refl, refl))

none_some : {A : Type 0} (x : A) → None ≡ Some x → ⊥
none_some x h = cc

some_differ : Some true ≡ Some false → ⊥
some_differ h = cc

pub value_true : (s : List Literal) (l : Literal) → Some true ≡ value_of s l → holds s l ≡ true
value_true s l e =
    elim (value_cases (holds s l) (holds s (negation l)) (Some true) e) as (λ _. holds s l ≡ true) [
      | inl a ↦ a.1
      | inr r ↦ elim r as (λ _. holds s l ≡ true) [ inl b ↦ absurd (some_differ b.0) | inr n ↦ absurd (none_some true (sym n.0)) ]
    ]

pub value_false : (s : List Literal) (l : Literal) → Some false ≡ value_of s l → holds s (negation l) ≡ true
value_false s l e =
    elim (value_cases (holds s l) (holds s (negation l)) (Some false) e) as (λ _. holds s (negation l) ≡ true) [
      | inl a ↦ absurd (some_differ (sym a.0))
      | inr r ↦ elim r as (λ _. holds s (negation l) ≡ true) [ inl b ↦ b.2 | inr n ↦ absurd (none_some false (sym n.0)) ]
    ]

-- two literals of one variable are equal or opposite
pub equal_or_opposite : (k l : Literal) → k.variable ≡ l.variable → (k ≡ l) ⊎ (k ≡ negation l)
equal_or_opposite k l e = go k.positive l.positive refl refl
  where
    go : (a b : Bool) → k.positive ≡ a → l.positive ≡ b → (k ≡ l) ⊎ (k ≡ negation l)
    go true true p q = inl (literal_ext k l e (p ∙ sym q))
    go false false p q = inl (literal_ext k l e (p ∙ sym q))
    go true false p q = inr (literal_ext k (negation l) e (p ∙ sym (ap not q)))
    go false true p q = inr (literal_ext k (negation l) e (p ∙ sym (ap not q)))

-- a set without a literal and without its negation does not mention its variable
pub free_from : (s : List Literal) (l : Literal) → holds s l ≡ false → holds s (negation l) ≡ false → mentions s l.variable ≡ false
free_from s l h n = false_from_ne_true (mentions s l.variable) bad
  where
    bad : mentions s l.variable ≡ true → ⊥
    bad m =
        let r = holds_from_mentions s l.variable m in
        elim (equal_or_opposite r.0 l r.2) as (λ _. ⊥) [
          | inl one ↦ both_ways (holds s l) h (subst (λ (x : Literal). holds s x ≡ true) one r.1)
          | inr other ↦ both_ways (holds s (negation l)) n (subst (λ (x : Literal). holds s x ≡ true) other r.1)
        ]

pub value_none : (s : List Literal) (l : Literal) → None ≡ value_of s l → is_free s l ≡ true
value_none s l e =
    elim (value_cases (holds s l) (holds s (negation l)) None e) as (λ _. is_free s l ≡ true) [
      | inl a ↦ absurd (none_some true a.0)
      | inr r ↦ elim r as (λ _. is_free s l ≡ true) [
        | inl b ↦ absurd (none_some false b.0)
        | inr n ↦ not_from_false (mentions s l.variable) (free_from s l n.1 n.2)
      ]
    ]

pub count_free-append : (s a b : List Literal) → count_free s (a ++ b) ≡ count_free s a + count_free s b
count_free-append s [] b = omega arith
count_free-append s (x ∷ xs) b = let ih = count_free-append s xs b in omega (arith, ih)

all_push : (p : Literal → Bool) (xs : List Literal) (l : Literal) → list_all p xs ≡ true → p l ≡ true → list_all p (xs ++ l ∷ []) ≡ true
all_push p xs l a b = list_all-append p xs (l ∷ []) ∙ and_from (list_all p xs) (p l && true) a (and_from (p l) true b refl)

-- the literal at i is read: a false one changes nothing
pub scan_false : (s c : List Literal) (i : ℕ) (d : Literal) (o : Option Literal) → i < length c → IsScan s (take i c) o → holds s (negation (get_or c i d)) ≡ true → IsScan s (take (i + 1) c) o
scan_false s c i d None l h f = rw (take_more c i d l) (all_push (λ k. holds s (negation k)) (take i c) (get_or c i d) h f)
scan_false s c i d (Some u) l h f =
    let more : take (i + 1) c ≡ take i c ++ get_or c i d ∷ [] = take_more c i d l in
    let count = count_free-append s (take i c) (get_or c i d ∷ []) in
    let x = get_or c i d in
    rw more (
      holds-append (take i c) (x ∷ []) u ∙ or_left (holds (take i c) u) (holds (x ∷ []) u) h.0,
      h.1,
      all_push (λ k. same k u || holds s (negation k)) (take i c) x h.2 (or_right (same x u) (holds s (negation x)) f),
      omega (arith, count, h.3),
    )

-- the first one that is left open
pub scan_open : (s c : List Literal) (i : ℕ) (d : Literal) → i < length c → IsScan s (take i c) None → is_free s (get_or c i d) ≡ true → IsScan s (take (i + 1) c) (Some (get_or c i d))
scan_open s c i d l h f =
    let x = get_or c i d in
    let more : take (i + 1) c ≡ take i c ++ get_or c i d ∷ [] = take_more c i d l in
    let count = count_free-append s (take i c) (x ∷ []) in
    let one : count_free s (x ∷ []) ≡ 1 = rw f refl in
    rw more (
      holds-append (take i c) (x ∷ []) x ∙ or_right (holds (take i c) x) (holds (x ∷ []) x) (or_left (same x x) false (same-refl x)),
      f,
      all_push (λ k. same k x || holds s (negation k)) (take i c) x (weaken (take i c) h) (or_left (same x x) (holds s (negation x)) (same-refl x)),
      omega (arith, count, one),
    )
  where
    weaken : (xs : List Literal) → falsifies s xs ≡ true → is_unit s (get_or c i d) xs ≡ true
    weaken [] e = refl
    weaken (y ∷ ys) e =
        let parts = and_parts (holds s (negation y)) (falsifies s ys) e in
        and_from (same y (get_or c i d) || holds s (negation y)) (is_unit s (get_or c i d) ys) (or_right (same y (get_or c i d)) (holds s (negation y)) parts.0) (weaken ys parts.1)

-- a second one
pub scan_two : (s c : List Literal) (i : ℕ) (d u : Literal) → i < length c → IsScan s (take i c) (Some u) → is_free s (get_or c i d) ≡ true → is_closed_at s c ≡ true
scan_two s c i d u l h f =
    let x = get_or c i d in
    let more : take (i + 1) c ≡ take i c ++ get_or c i d ∷ [] = take_more c i d l in
    let count = count_free-append s (take i c) (x ∷ []) in
    let one : count_free s (x ∷ []) ≡ 1 = rw f refl in
    let whole = count_free-append s (take (i + 1) c) (drop (i + 1) c) in
    let parts : count_free s (take (i + 1) c ++ drop (i + 1) c) ≡ count_free s c = ap (count_free s) (take-append-drop (i + 1) c) in
    let prefix : count_free s (take (i + 1) c) ≡ count_free s (take i c ++ x ∷ []) = ap (count_free s) more in
    let two : 2 ≤ count_free s c = omega (arith, whole, parts, prefix, count, one, h.3) in
    or_right (list_any (holds s) c) (leb 2 (count_free s c)) (le-leb 2 (count_free s c) two)

pub scan_true : (s c : List Literal) (i : ℕ) (d : Literal) → i < length c → holds s (get_or c i d) ≡ true → is_closed_at s c ≡ true
scan_true s c i d l h = or_left (list_any (holds s) c) (leb 2 (count_free s c)) (list_any_at (holds s) c i d l h)

-- all are read
pub scan_all : (s c : List Literal) (i : ℕ) (o : Option Literal) → length c ≤ i → IsScan s (take i c) o → IsScan s c o
scan_all s c i o l h = subst (λ (xs : List Literal). IsScan s xs o) (take_all i c l) h

pub step_two : (s c : List Literal) (i : ℕ) (d : Literal) (o : Option Literal) → i < length c → IsScan s (take i c) o → true ≡ is_some o → None ≡ value_of s (get_or c i d) → is_closed_at s c ≡ true
step_two s c i d None l h e v = absurd (true≢false e)
step_two s c i d (Some u) l h e v = scan_two s c i d u l h (value_none s (get_or c i d) v)

pub step_open : (s c : List Literal) (i : ℕ) (d : Literal) (o : Option Literal) → i < length c → IsScan s (take i c) o → false ≡ is_some o → None ≡ value_of s (get_or c i d) → IsScan s (take (i + 1) c) (Some (get_or c i d))
step_open s c i d None l h e v = scan_open s c i d l h (value_none s (get_or c i d) v)
step_open s c i d (Some u) l h e v = absurd (false≢true e)

-- whether a literal is true, by its value
pub value_holds : (s : List Literal) (l : Literal) (b : Bool) → Some b ≡ value_of s l → b ≡ holds s l
value_holds s l b e =
    elim (value_cases (holds s l) (holds s (negation l)) (Some b) e) as (λ _. b ≡ holds s l) [
      | inl a ↦ the_value b true a.0 ∙ sym a.1
      | inr r ↦ elim r as (λ _. b ≡ holds s l) [ inl f ↦ the_value b false f.0 ∙ sym f.1 | inr n ↦ absurd (none_some b (sym n.0)) ]
    ]
  where
    the_value : (x y : Bool) → Some x ≡ Some y → x ≡ y
    the_value x y h = cc

pub none_holds : (s : List Literal) (l : Literal) → None ≡ value_of s l → false ≡ holds s l
none_holds s l e =
    elim (value_cases (holds s l) (holds s (negation l)) None e) as (λ _. false ≡ holds s l) [
      | inl a ↦ absurd (none_some true a.0)
      | inr r ↦ elim r as (λ _. false ≡ holds s l) [ inl f ↦ absurd (none_some false f.0) | inr n ↦ sym n.1 ]
    ]
