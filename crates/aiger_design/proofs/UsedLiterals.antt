-- What is known of a literal that an operation uses: the constant that it wants stands first, and its driver is there.
use Rattle.std.proofs.Common.{◌≡◌, ℕ, suc, ◌+◌, ◌/◌, ◌%◌, ◌<◌, ◌≤◌, ◌⊎◌, ◌||◌, ◌==◌, Bool, true, false, cond, List, [], ◌∷◌, length, Option, Some, None, option_map, refl, ap, subst, ◌∙◌, inl, inr, arith, eq-eqb}
use Rattle.std.proofs.lemmas.List.{length-map}
use Rattle.std.proofs.lemmas.Bool.{eqb-true, eqb-false}
use Rattle.std.specs.List.{list_any}
use Rattle.wiring.specs.Wiring.{In}
use Rattle.aiger_laws.specs.declared.tree.Latch.{Latch}
use Rattle.aiger_laws.specs.Trees.{Aiger, variable, is_negated}
use Rattle.aiger_laws.specs.Drivers.{Driver, nothing, input_bit, held_bit, gate_bit, place_of, driver_by, driver, latch_literals, gate_literals}
use Rattle.aiger_design.specs.Positions.{User, uses}

-- ---- what is used

any_of : {A : Type 0} (test : A → Bool) (xs : List A) (x : A) → In x xs → test x ≡ true → list_any test xs ≡ true
any_of test [] x here holds = absurd here
any_of test (y ∷ ys) x (inl same) holds = ap (λ b. b || list_any test ys) (ap test (inverse same) ∙ holds)
  where
    inverse : x ≡ y → y ≡ x
    inverse e = subst (λ z. z ≡ x) e refl
any_of test (y ∷ ys) x (inr here) holds = go (test y) (any_of test ys x here holds)
  where
    go : (b : Bool) → list_any test ys ≡ true → (b || list_any test ys) ≡ true
    go true rest = refl
    go false rest = rest

-- a literal of a user that passes the test is used
pub uses_of : (test : ℕ → Bool) (us : List User) (u : User) (l : ℕ) → In u us → In l u.literals → test l ≡ true → uses test us ≡ true
uses_of test us u l here within holds = any_of (λ (v : User). list_any test v.literals) us u here (any_of test u.literals l within holds)

-- a literal of the variable of constants that is not negated is 0
pub zero_literal : (l : ℕ) → (variable l == 0) ≡ true → is_negated l ≡ false → (l == 0) ≡ true
zero_literal l none plain =
    let half : l / 2 ≡ 0 = eqb-true (l / 2) 0 none in
    let even : l % 2 ≡ 1 → ⊥ = eqb-false (l % 2) 1 plain in
    eq-eqb l 0 (by_size half even (grind arith))
  where
    by_size : l / 2 ≡ 0 → (l % 2 ≡ 1 → ⊥) → (l ≡ 0) ⊎ ((l ≡ 1) ⊎ (2 ≤ l)) → l ≡ 0
    by_size half even (inl is) = is
    by_size half even (inr (inl is)) = absurd (even (omega (arith, is)))
    by_size half even (inr (inr more)) = absurd (omega (arith, half, more))

-- ---- places of drivers

place_within : (v : ℕ) (ls : List ℕ) (k : ℕ) → place_of v ls ≡ Some k → k < length ls
place_within v [] k is = absurd (let w : ⊥ = cc in w)
place_within v (l ∷ ls) k is = go (place_within v ls) (variable l == v) (place_of v ls) refl k is
  where
    in_some : Option ℕ → ℕ
    in_some None = 0
    in_some (Some n) = n

    go : ((j : ℕ) → place_of v ls ≡ Some j → j < length ls) → (b : Bool) (o : Option ℕ) → place_of v ls ≡ o → (j : ℕ)
        → cond b (Some 0) (option_map (λ (i : ℕ). i + 1) o) ≡ Some j → j < suc (length ls)
    go more true o at j h = let first : 0 ≡ j = ap in_some h in omega arith
    go more false None at j h = absurd (let w : ⊥ = cc in w)
    go more false (Some i) at j h = let next : i + 1 ≡ j = ap in_some h in let low : i < length ls = more i at in omega arith

-- the place of a driver
abbrev number : Driver → ℕ
number nothing = 0
number (input_bit j) = j
number (held_bit j) = j
number (gate_bit j) = j

-- an input that gives a bit is there
pub input_within : (t : Aiger) (v k : ℕ) → driver t v ≡ input_bit k → k < length t.inputs
unfolding driver
input_within t v k is = go (place_of v t.inputs) (place_of v (latch_literals t.latches)) (place_of v (gate_literals t.gates)) refl is
  where
    go : (i l g : Option ℕ) → place_of v t.inputs ≡ i → driver_by i l g ≡ input_bit k → k < length t.inputs
    go (Some j) l g at h = place_within v t.inputs k (at ∙ ap Some (ap number h))
    go None (Some j) g at h = absurd (let w : ⊥ = cc in w)
    go None None (Some j) at h = absurd (let w : ⊥ = cc in w)
    go None None None at h = absurd (let w : ⊥ = cc in w)

-- a latch that gives a bit is there
pub latch_within : (t : Aiger) (v k : ℕ) → driver t v ≡ held_bit k → k < length t.latches
unfolding driver
latch_within t v k is = go (place_of v t.inputs) (place_of v (latch_literals t.latches)) (place_of v (gate_literals t.gates)) refl is
  where
    go : (i l g : Option ℕ) → place_of v (latch_literals t.latches) ≡ l → driver_by i l g ≡ held_bit k → k < length t.latches
    go (Some j) l g at h = absurd (let w : ⊥ = cc in w)
    go None (Some j) g at h =
        let low : k < length (latch_literals t.latches) = place_within v (latch_literals t.latches) k (at ∙ ap Some (ap number h)) in
        let count : length (latch_literals t.latches) ≡ length t.latches = length-map t.latches (λ (l : Latch). l.literal) in
        omega arith
    go None None (Some j) at h = absurd (let w : ⊥ = cc in w)
    go None None None at h = absurd (let w : ⊥ = cc in w)
