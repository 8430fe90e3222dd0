-- Clauses under marks, and what a mark changes.
use Rattle.std.proofs.Common.{◌≡◌, ℕ, ◌+◌, ◌*◌, ◌<◌, Bool, true, false, not, ◌&&◌, ◌||◌, cond, List, [], ◌∷◌, length, eqb, get_or, set, refl, sym, ◌∙◌, ap, subst, arith, get_or-set_same, get_or-set_other}
use Rattle.std.specs.Prelude.{Option, Some, None}
use Rattle.std.proofs.Math.Bool.{beq}
use Rattle.std.specs.List.{list_all}
use Rattle.std.proofs.lemmas.Bool.{eqb-true, eqb-false, eq-eqb, ne_eqb}
use Rattle.resolution_proof.specs.declared.literal.Literal.{Literal}
use Rattle.resolution_proof.specs.Literal.{negation, same, holds}
use Rattle.resolution_proof.proofs.Sets.{same-true, literal_ext}
use Rattle.lrat_text.specs.declared.judged.Judged.TheVariants.{Forces, Neither}
use Rattle.lrat_text.specs.Hints.{open_of, judged_left, judged}
use Rattle.lrat_text.specs.Marks.{mark_of, is_left, judged_by, with_mark}

-- the literals of the set are those that the test tells
abbrev pub Tells : (Literal → Bool) → List Literal → Type 0
Tells truth set = (l : Literal) → truth l ≡ holds set l

module _ (truth : Literal → Bool) (set : List Literal) (e : Tells truth set) where
  -- with one literal left, each further one that is not false has to be the same
  left_judged : (o : Literal) (c : List Literal) → judged_by truth (Some o) c ≡ cond (list_all (same o) (open_of set c)) (Forces o) Neither
  left_judged o [] = refl
  left_judged o (l ∷ ls) =
      subst (λ (b : Bool). cond b (judged_by truth (Some o) ls) (cond (same o l) (judged_by truth (Some l) ls) Neither)
      ≡ cond (list_all (same o) (cond (not (holds set (negation l))) (l ∷ open_of set ls) (open_of set ls))) (Forces o) Neither)
      (sym (e (negation l))) (step (left_judged o ls) (holds set (negation l)))
    where
      inner : judged_by truth (Some o) ls ≡ cond (list_all (same o) (open_of set ls)) (Forces o) Neither → (s : Bool) → same o l ≡ s
          → cond s (judged_by truth (Some l) ls) Neither ≡ cond (s && list_all (same o) (open_of set ls)) (Forces o) Neither
      inner ih true f =
          subst (λ (m : Literal). judged_by truth (Some m) ls ≡ cond (list_all (same o) (open_of set ls)) (Forces o) Neither) (same-true o l f) ih
      inner ih false f = refl

      step : judged_by truth (Some o) ls ≡ cond (list_all (same o) (open_of set ls)) (Forces o) Neither → (b : Bool) → cond b (judged_by truth (Some o) ls) (cond (same o l) (judged_by truth (Some l) ls) Neither)
          ≡ cond (list_all (same o) (cond (not b) (l ∷ open_of set ls) (open_of set ls))) (Forces o) Neither
      step ih true = ih
      step ih false = inner ih (same o l) refl

  pub judged_same : (c : List Literal) → judged_by truth None c ≡ judged set c
  judged_same [] = refl
  judged_same (l ∷ ls) =
      subst (λ (b : Bool). cond b (judged_by truth None ls) (cond (not (truth l)) (judged_by truth (Some l) ls) Neither)
      ≡ judged_left set (cond (not (holds set (negation l))) (l ∷ open_of set ls) (open_of set ls)))
      (sym (e (negation l))) (step (judged_same ls) (holds set (negation l)))
    where
      inner : (s : Bool) → cond (not s) (judged_by truth (Some l) ls) Neither ≡ cond (not s && list_all (same l) (open_of set ls)) (Forces l) Neither
      inner true = refl
      inner false = left_judged l ls

      step : judged_by truth None ls ≡ judged set ls → (b : Bool) → cond b (judged_by truth None ls) (cond (not (truth l)) (judged_by truth (Some l) ls) Neither)
          ≡ judged_left set (cond (not b) (l ∷ open_of set ls) (open_of set ls))
      step ih true = ih
      step ih false =
          subst (λ (s : Bool). cond (not (truth l)) (judged_by truth (Some l) ls) Neither ≡ cond (not s && list_all (same l) (open_of set ls)) (Forces l) Neither)
          (e l) (inner (truth l))

-- a literal that is forced is not false
forced_by : (truth : Literal → Bool) (left : Option Literal) (c : List Literal) (l : Literal) → ((o : Literal) → left ≡ Some o → truth (negation o) ≡ false)
    → judged_by truth left c ≡ Forces l → truth (negation l) ≡ false
forced_by truth None [] l free h = absurd (let w : ⊥ = cc in w)
forced_by truth (Some o) [] l free h = let one : o ≡ l = cc in subst (λ (m : Literal). truth (negation m) ≡ false) one (free o refl)
forced_by truth left (k ∷ ks) l free h = step (λ o. forced_by truth o ks l) (truth (negation k)) refl h
  where
    inner : ((o : Option Literal) → ((m : Literal) → o ≡ Some m → truth (negation m) ≡ false) → judged_by truth o ks ≡ Forces l → truth (negation l) ≡ false) → (s : Bool)
        → truth (negation k) ≡ false → cond s (judged_by truth (Some k) ks) Neither ≡ Forces l → truth (negation l) ≡ false
    inner ih true f g = ih (Some k) (λ o q. let one : k ≡ o = cc in subst (λ (m : Literal). truth (negation m) ≡ false) one f) g
    inner ih false f g = absurd (let w : ⊥ = cc in w)

    step : ((o : Option Literal) → ((m : Literal) → o ≡ Some m → truth (negation m) ≡ false) → judged_by truth o ks ≡ Forces l → truth (negation l) ≡ false) → (b : Bool) → truth (negation k) ≡ b
        → cond b (judged_by truth left ks) (cond (is_left truth left k) (judged_by truth (Some k) ks) Neither) ≡ Forces l → truth (negation l) ≡ false
    step ih true f g = ih left free g
    step ih false f g = inner ih (is_left truth left k) f g

pub forced_open : (truth : Literal → Bool) (c : List Literal) (l : Literal) → judged_by truth None c ≡ Forces l → truth (negation l) ≡ false
forced_open truth c l h = forced_by truth None c l (λ o q. absurd (let w : ⊥ = cc in w)) h

other_sign : (p q : Bool) → beq p q ≡ false → not p ≡ q
other_sign true true h = absurd (let w : ⊥ = cc in w)
other_sign true false h = refl
other_sign false true h = refl
other_sign false false h = absurd (let w : ⊥ = cc in w)

-- a mark tells one literal more, where its negation was not true
pub tells_more : (truth : Literal → Bool) (set : List Literal) (m : Literal) → Tells truth set → truth (negation m) ≡ false → Tells (with_mark truth m) (m ∷ set)
tells_more truth set m e free l = by_variable (eqb m.variable l.variable) refl
  where
    by_sign : (p : Bool) → beq m.positive l.positive ≡ p → m.variable ≡ l.variable → p ≡ (p || holds set l)
    by_sign true f v = refl
    by_sign false f v =
        let one : negation m ≡ l = literal_ext (negation m) l v (other_sign m.positive l.positive f) in
        sym (subst (λ (k : Literal). holds set k ≡ false) one (sym (e (negation m)) ∙ free))

    by_variable : (v : Bool) → eqb m.variable l.variable ≡ v → cond v (beq m.positive l.positive) (truth l) ≡ ((v && beq m.positive l.positive) || holds set l)
    by_variable true f = by_sign (beq m.positive l.positive) refl (eqb-true m.variable l.variable f)
    by_variable false f = e l

mark_same : (s : ℕ) (p q : Bool) → eqb (mark_of s p) (mark_of s q) ≡ beq p q
mark_same s true true = eq-eqb _ _ refl
mark_same s true false = ne_eqb _ _ (λ h. let w : 2 * s + 1 ≡ 2 * s + 0 = h in omega (arith, w))
mark_same s false true = ne_eqb _ _ (λ h. let w : 2 * s + 0 ≡ 2 * s + 1 = h in omega (arith, w))
mark_same s false false = eq-eqb _ _ refl

-- what one more mark tells
pub marked_set : (s : ℕ) (marks : List ℕ) (m l : Literal) → m.variable < length marks
    → eqb (get_or (set marks m.variable (mark_of s m.positive)) l.variable 0) (mark_of s l.positive)
    ≡ cond (eqb m.variable l.variable) (beq m.positive l.positive) (eqb (get_or marks l.variable 0) (mark_of s l.positive))
marked_set s marks m l room = step (eqb m.variable l.variable) refl
  where
    step : (v : Bool) → eqb m.variable l.variable ≡ v → eqb (get_or (set marks m.variable (mark_of s m.positive)) l.variable 0) (mark_of s l.positive)
        ≡ cond v (beq m.positive l.positive) (eqb (get_or marks l.variable 0) (mark_of s l.positive))
    step true f =
        let one : m.variable ≡ l.variable = eqb-true m.variable l.variable f in
        ap (λ (n : ℕ). eqb n (mark_of s l.positive))
        (subst (λ (k : ℕ). get_or (set marks m.variable (mark_of s m.positive)) k 0 ≡ mark_of s m.positive) one (get_or-set_same marks m.variable (mark_of s m.positive) 0 room))
        ∙ mark_same s m.positive l.positive
    step false f =
        ap (λ (n : ℕ). eqb n (mark_of s l.positive))
        (get_or-set_other marks m.variable l.variable (mark_of s m.positive) 0 (λ h. eqb-false m.variable l.variable f (sym h)))

mark_small : (s : ℕ) (p : Bool) → mark_of s p < 2 * (s + 1)
mark_small s true = let w : 2 * s + 1 < 2 * (s + 1) = omega arith in w
mark_small s false = let w : 2 * s + 0 < 2 * (s + 1) = omega arith in w

-- one more mark is of the stamp
pub below_set : (s : ℕ) (marks : List ℕ) (position : ℕ) (p : Bool) → position < length marks → ((k : ℕ) → get_or marks k 0 < 2 * (s + 1))
    → (k : ℕ) → get_or (set marks position (mark_of s p)) k 0 < 2 * (s + 1)
below_set s marks position p room below k = step (eqb position k) refl
  where
    step : (v : Bool) → eqb position k ≡ v → get_or (set marks position (mark_of s p)) k 0 < 2 * (s + 1)
    step true f =
        subst (λ (n : ℕ). n < 2 * (s + 1)) (sym (subst (λ (j : ℕ). get_or (set marks position (mark_of s p)) j 0 ≡ mark_of s p) (eqb-true position k f) (get_or-set_same marks position (mark_of s p) 0 room))) (mark_small s p)
    step false f =
        subst (λ (n : ℕ). n < 2 * (s + 1)) (sym (get_or-set_other marks position k (mark_of s p) 0 (λ h. eqb-false position k f (sym h)))) (below k)

-- a mark of an earlier stamp tells nothing
pub tells_none : (s n : ℕ) (p : Bool) → n < 2 * s → eqb n (mark_of s p) ≡ false
tells_none s n true h = ne_eqb _ _ (λ e. let w : n ≡ 2 * s + 1 = e in omega (arith, w, h))
tells_none s n false h = ne_eqb _ _ (λ e. let w : n ≡ 2 * s + 0 = e in omega (arith, w, h))
