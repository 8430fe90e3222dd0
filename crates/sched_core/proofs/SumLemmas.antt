-- Sums over the numbers below a bound.
use Rattle.std.proofs.Common.{◌≡◌, ◌≢◌, ℕ, zero, suc, ◌+◌, ◌<◌, ◌≤◌, ◌⊎◌, Bool, true, false, refl, sym, ap, ap₂, inl, inr, arith}
use Rattle.std.specs.Prelude.{◌==◌}
use Rattle.std.proofs.lemmas.Bool.{cases_eq, eq-eqb, ne_eqb}
use Rattle.sched_core.specs.Sums.{sum_below, one_if}

pub sum_below-same : (n : ℕ) (f g : ℕ → ℕ) → ((k : ℕ) → k < n → f k ≡ g k) → sum_below n f ≡ sum_below n g
sum_below-same zero f g same = refl
sum_below-same (suc n) f g same = ap₂ (λ a b. a + b) (sum_below-same n f g (λ k below. same k (omega arith))) (same n (omega arith))

-- what a change at one number does to the sum
pub sum_below-changed : (n : ℕ) (f g : ℕ → ℕ) (i : ℕ) → i < n → ((k : ℕ) → k ≢ i → g k ≡ f k) → sum_below n g + f i ≡ sum_below n f + g i
sum_below-changed zero f g i within others = absurd (omega arith)
sum_below-changed (suc n) f g i within others = go (cases_eq i n) (λ below. sum_below-changed n f g i below others)
  where
    go : (i ≡ n) ⊎ (i ≢ n) → (i < n → sum_below n g + f i ≡ sum_below n f + g i) → sum_below (suc n) g + f i ≡ sum_below (suc n) f + g i
    go (inl last) rest =
        let prefix : sum_below n g ≡ sum_below n f = sum_below-same n g f (λ k below. others k (λ same. absurd (omega arith))) in
        let old : f i ≡ f n = ap f last in
        let new : g i ≡ g n = ap g last in
        omega arith
    go (inr earlier) rest =
        let prefix : sum_below n g + f i ≡ sum_below n f + g i = rest (omega arith) in
        let end : g n ≡ f n = others n (λ same. earlier (sym same)) in
        omega arith

-- no term is greater than the sum
pub le-sum_below : (n : ℕ) (f : ℕ → ℕ) (k : ℕ) → k < n → f k ≤ sum_below n f
le-sum_below zero f k within = absurd (omega arith)
le-sum_below (suc n) f k within = go (cases_eq k n) (λ below. le-sum_below n f k below)
  where
    go : (k ≡ n) ⊎ (k ≢ n) → (k < n → f k ≤ sum_below n f) → f k ≤ sum_below (suc n) f
    go (inl last) rest = let same : f k ≡ f n = ap f last in omega arith
    go (inr earlier) rest = let prefix : f k ≤ sum_below n f = rest (omega arith) in omega arith

pub sum_below-none : (n : ℕ) (f : ℕ → ℕ) → ((k : ℕ) → k < n → f k ≡ 0) → sum_below n f ≡ 0
sum_below-none zero f none = refl
sum_below-none (suc n) f none =
    let prefix : sum_below n f ≡ 0 = sum_below-none n f (λ k below. none k (omega arith)) in
    let end : f n ≡ 0 = none n (omega arith) in
    omega arith

-- a sum of zero has no other term
pub none_of_sum : (n : ℕ) (f : ℕ → ℕ) → sum_below n f ≡ 0 → (k : ℕ) → k < n → f k ≡ 0
none_of_sum n f zero_sum k within = let bound : f k ≤ sum_below n f = le-sum_below n f k within in omega arith

pub sum_below-add : (n : ℕ) (f g : ℕ → ℕ) → sum_below n (λ k. f k + g k) ≡ sum_below n f + sum_below n g
sum_below-add zero f g = refl
sum_below-add (suc n) f g =
    let prefix : sum_below n (λ k. f k + g k) ≡ sum_below n f + sum_below n g = sum_below-add n f g in omega arith

-- terms of at most 1 have a sum of at most their number
pub sum_below-le : (n : ℕ) (f : ℕ → ℕ) → ((k : ℕ) → f k ≤ 1) → sum_below n f ≤ n
sum_below-le zero f small = omega arith
sum_below-le (suc n) f small =
    let prefix : sum_below n f ≤ n = sum_below-le n f small in
    let end : f n ≤ 1 = small n in
    omega arith

pub one_if-le : (b : Bool) → one_if b ≤ 1
one_if-le true = omega arith
one_if-le false = omega arith

pub one_if-zero : (b : Bool) → one_if b ≡ 0 → b ≡ false
one_if-zero true is = absurd (omega arith)
one_if-zero false is = refl

pub one_if-one : (b : Bool) → one_if b ≡ 1 → b ≡ true
one_if-one true is = refl
one_if-one false is = absurd (omega arith)

-- exactly one number below n is v
pub sum_below-one : (n v : ℕ) → v < n → sum_below n (λ w. one_if (w == v)) ≡ 1
sum_below-one n v within =
    let change : sum_below n (λ w. one_if (w == v)) + 0 ≡ sum_below n (λ w. 0) + one_if (v == v) =
    sum_below-changed n (λ w. 0) (λ w. one_if (w == v)) v within (λ k other. ap one_if (ne_eqb k v other)) in
    let none : sum_below n (λ w. 0) ≡ 0 = sum_below-none n (λ w. 0) (λ k below. refl) in
    let here : one_if (v == v) ≡ 1 = ap one_if (eq-eqb v v refl) in
    omega arith

-- and none where v is not below n
pub sum_below-past : (n v : ℕ) → n ≤ v → sum_below n (λ w. one_if (w == v)) ≡ 0
sum_below-past n v past = sum_below-none n (λ w. one_if (w == v)) (λ k below. ap one_if (ne_eqb k v (λ same. absurd (omega arith))))
