-- Different numbers below a bound are no more than the bound.
use Rattle.std.proofs.Common.{◌≡◌, ℕ, zero, suc, ◌<◌, ◌≤◌, Bool, true, false, not, ◌&&◌, ◌||◌, cond, List, [], ◌∷◌, length, get_or, eqb, ltb, refl, sym, ap, subst, inl, inr, arith}
use Rattle.std.proofs.lemmas.Bool.{eqb-true, eqb-false, and_parts, and_from, or_cases, or_parts, false≢true, not-true, ltb-true, lt-ltb, false_from_ne_true, not_from_false}

-- the number is one of the list
abbrev pub is_member : List ℕ → ℕ → Bool
is_member [] n = false
is_member (x ∷ xs) n = eqb x n || is_member xs n

-- no number twice
abbrev pub is_distinct : List ℕ → Bool
is_distinct [] = true
is_distinct (x ∷ xs) = not (is_member xs x) && is_distinct xs

-- each number is below the bound
abbrev pub are_below : ℕ → List ℕ → Bool
are_below n [] = true
are_below n (x ∷ xs) = ltb x n && are_below n xs

abbrev rest_of : ℕ → List ℕ → List ℕ
rest_of n [] = []
rest_of n (x ∷ xs) = cond (eqb x n) (rest_of n xs) (x ∷ rest_of n xs)

is_member-rest_of : (n m : ℕ) (xs : List ℕ) → is_member xs m ≡ false → is_member (rest_of n xs) m ≡ false
is_member-rest_of n m [] h = refl
is_member-rest_of n m (x ∷ xs) h =
    let parts = or_parts (eqb x m) (is_member xs m) h in
    go (eqb x n) parts.0 (is_member-rest_of n m xs parts.1)
  where
    go : (b : Bool) → eqb x m ≡ false → is_member (rest_of n xs) m ≡ false → is_member (cond b (rest_of n xs) (x ∷ rest_of n xs)) m ≡ false
    go true e ih = ih
    go false e ih = rw e ih

is_distinct-rest_of : (n : ℕ) (xs : List ℕ) → is_distinct xs ≡ true → is_distinct (rest_of n xs) ≡ true
is_distinct-rest_of n [] h = refl
is_distinct-rest_of n (x ∷ xs) h =
    let parts = and_parts (not (is_member xs x)) (is_distinct xs) h in
    go (eqb x n) (not-true (is_member xs x) parts.0) (is_distinct-rest_of n xs parts.1)
  where
    go : (b : Bool) → is_member xs x ≡ false → is_distinct (rest_of n xs) ≡ true → is_distinct (cond b (rest_of n xs) (x ∷ rest_of n xs)) ≡ true
    go true absent ih = ih
    go false absent ih = and_from (not (is_member (rest_of n xs) x)) (is_distinct (rest_of n xs))
        (not_from_false (is_member (rest_of n xs) x) (is_member-rest_of n x xs absent)) ih

rest_of-none : (n : ℕ) (xs : List ℕ) → is_member xs n ≡ false → rest_of n xs ≡ xs
rest_of-none n [] h = refl
rest_of-none n (x ∷ xs) h =
    let parts = or_parts (eqb x n) (is_member xs n) h in
    let e : eqb x n ≡ false = parts.0 in
    rw e (ap (λ (ys : List ℕ). x ∷ ys) (rest_of-none n xs parts.1))

length-rest_of : (n : ℕ) (xs : List ℕ) → is_distinct xs ≡ true → length xs ≤ suc (length (rest_of n xs))
length-rest_of n [] h = omega arith
length-rest_of n (x ∷ xs) h =
    go (eqb x n) refl (length-rest_of n xs ((and_parts (not (is_member xs x)) (is_distinct xs) h).1))
  where
    parts : (not (is_member xs x) ≡ true) × (is_distinct xs ≡ true)
    parts = and_parts (not (is_member xs x)) (is_distinct xs) h

    go : (b : Bool) → eqb x n ≡ b → length xs ≤ suc (length (rest_of n xs)) → suc (length xs) ≤ suc (length (cond b (rest_of n xs) (x ∷ rest_of n xs)))
    go true e ih =
        let same : rest_of n xs ≡ xs = rest_of-none n xs (subst (λ (m : ℕ). is_member xs m ≡ false) (eqb-true x n e) (not-true (is_member xs x) parts.0)) in
        rw same (omega arith)
    go false e ih = omega (arith, ih)

below_rest_of : (n : ℕ) (xs : List ℕ) → are_below (suc n) xs ≡ true → are_below n (rest_of n xs) ≡ true
below_rest_of n [] h = refl
below_rest_of n (x ∷ xs) h =
    go (eqb x n) refl (below_rest_of n xs ((and_parts (ltb x (suc n)) (are_below (suc n) xs) h).1))
  where
    parts : (ltb x (suc n) ≡ true) × (are_below (suc n) xs ≡ true)
    parts = and_parts (ltb x (suc n)) (are_below (suc n) xs) h

    go : (b : Bool) → eqb x n ≡ b → are_below n (rest_of n xs) ≡ true → are_below n (cond b (rest_of n xs) (x ∷ rest_of n xs)) ≡ true
    go true e ih = ih
    go false e ih =
        let at_most : x < suc n = ltb-true x (suc n) parts.0 in
        let apart : x ≡ n → ⊥ = eqb-false x n e in
        let below : x < n = omega (arith, apart) in
        and_from (ltb x n) (are_below n (rest_of n xs)) (lt-ltb x n below) ih

pub pigeonhole : (n : ℕ) (xs : List ℕ) → is_distinct xs ≡ true → are_below n xs ≡ true → length xs ≤ n
pigeonhole zero [] d b = omega arith
pigeonhole zero (x ∷ xs) d b =
    let parts = and_parts (ltb x zero) (are_below zero xs) b in
    let low : x < zero = ltb-true x zero parts.0 in
    absurd (omega arith)
pigeonhole (suc n) xs d b =
    let ih = pigeonhole n (rest_of n xs) (is_distinct-rest_of n xs d) (below_rest_of n xs b) in
    let long = length-rest_of n xs d in
    omega (arith, ih, long)

-- a member stands at some position
pub member_at : (xs : List ℕ) (n : ℕ) → is_member xs n ≡ true → (k : ℕ) × (k < length xs) × (get_or xs k 0 ≡ n)
member_at [] n h = absurd (false≢true h)
member_at (x ∷ xs) n h =
    elim (or_cases (eqb x n) (is_member xs n) h) as (λ _. (k : ℕ) × (k < length (x ∷ xs)) × (get_or (x ∷ xs) k 0 ≡ n)) [
      | inl here ↦ (zero, omega arith, eqb-true x n here)
      | inr there ↦ let r = member_at xs n there in (suc r.0, omega (arith, r.1), r.2)
    ]

-- numbers that differ at different positions are distinct
pub distinct_from : (xs : List ℕ) → ((j k : ℕ) → j < length xs → k < length xs → get_or xs j 0 ≡ get_or xs k 0 → j ≡ k) → is_distinct xs ≡ true
distinct_from [] f = refl
distinct_from (x ∷ xs) f =
    and_from (not (is_member xs x)) (is_distinct xs)
    (not_from_false (is_member xs x) (false_from_ne_true (is_member xs x) no_member))
    (distinct_from xs (λ j k lj lk e. let up : suc j ≡ suc k = f (suc j) (suc k) (omega (arith, lj)) (omega (arith, lk)) e in omega (arith, up)))
  where
    no_member : is_member xs x ≡ true → ⊥
    no_member h =
        let r = member_at xs x h in
        let bad : zero ≡ suc r.0 = f zero (suc r.0) (omega arith) (omega (arith, r.1)) (sym r.2) in
        omega (arith, bad)

pub below_from : (n : ℕ) (xs : List ℕ) → ((k : ℕ) → k < length xs → get_or xs k 0 < n) → are_below n xs ≡ true
below_from n [] f = refl
below_from n (x ∷ xs) f =
    let first : x < n = f zero (omega arith) in
    and_from (ltb x n) (are_below n xs) (lt-ltb x n first) (below_from n xs (λ k l. f (suc k) (omega (arith, l))))
