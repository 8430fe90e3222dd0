-- The tables of a new schedule: the slots of first edges, and the edges from each module.
use Rattle.std.proofs.Common.{◌≡◌, ◌≢◌, ℕ, zero, suc, ◌+◌, ◌*◌, ◌^◌, ◌<◌, ◌≤◌, ◌⊎◌, Bool, true, false, ◌&&◌, List, [], ◌∷◌, ◌++◌, map, length, get_or, set, slice_index, refl, sym, ap, ◌∙◌, inl, inr}
use Rattle.std.proofs.Common.{get_or-set_same, get_or-set_other, mul-le-mul_right, arith}
use Rattle.std.specs.Prelude.{◌==◌, nat_lt}
use Rattle.std.proofs.lemmas.Bool.{cases_eq, eq-eqb, ne_eqb, lt-ltb, le-ltb}
use lib.Seq.{map-set}
use Rattle.sched_core.specs.Sums.{one_if}
use Rattle.sched_core.specs.State.{callees_of, callee}
use Rattle.sched_core.specs.Runs.{AreCallees}
use Rattle.sched_core.proofs.EdgeSums.{sum_below-le_each}
use Rattle.sched_core.proofs.Reading.{get_or-past}
use Rattle.shared_schedule.specs.Rule.{edges_below, edge_slot}
use Rattle.shared_schedule.specs.Working.{edge_times, goes_from}

-- the slot after a caller's edges is a number of 64 bits
pub next-fits : (callees : List (List ℕ)) (i next row : ℕ) → AreCallees callees → i < length callees → next ≡ edge_slot callees i 0 → row ≡ length (callees_of callees i) → next + row < 2 ^ 64
next-fits callees i next row are below is long =
    let few : length callees < 4294967296 = are.modules in
    let each : length (callees_of callees i) < 4294967296 = are.entries i in
    let sum : edges_below callees i ≤ i * 4294967295 = sum_below-le_each i 4294967295 (λ k. length (callees_of callees k)) (λ k less. let entry : length (callees_of callees k) < 4294967296 = are.entries k in omega arith) in
    let most : i * 4294967295 ≤ 4294967294 * 4294967295 = mul-le-mul_right {m = i} {n = 4294967294} 4294967295 (omega arith) in
    omega arith

module _ {A X : Type 0} (f : A → List X) where
  -- a row of lists that are read through
  pub get_or-map : (rows : List A) (m : ℕ) (row : A) → m < length rows → row ≡ get_or rows m row → get_or (map f rows) m [] ≡ f row
  get_or-map [] m row below is = absurd (omega arith)
  get_or-map (r ∷ rows) zero row below is = ap f (sym is)
  get_or-map (r ∷ rows) (suc m) row below is = get_or-map rows m row (omega arith) is

  -- one more element in one of them
  pub rows-pushed : (rows : List A) (m : ℕ) (row new : A) (x : X) → m < length rows → row ≡ get_or rows m row → f new ≡ f row ++ x ∷ []
      → map f (set rows m new) ≡ set (map f rows) m (get_or (map f rows) m [] ++ x ∷ [])
  rows-pushed rows m row new x below is pushed = map-set f rows m new ∙ ap (set (map f rows) m) (pushed ∙ ap (λ l. l ++ x ∷ []) (sym (get_or-map rows m row below is)))

edge_times-append : (xs ys : List (ℕ × ℕ)) (a b : ℕ) → edge_times (xs ++ ys) a b ≡ edge_times xs a b + edge_times ys a b
edge_times-append [] ys a b = omega arith
edge_times-append (x ∷ xs) ys a b =
    let rest : edge_times (xs ++ ys) a b ≡ edge_times xs a b + edge_times ys a b = edge_times-append xs ys a b in
    let head : ℕ = one_if ((a == x.0) && (b == x.1)) in
    ap (λ n. one_if ((a == x.0) && (b == x.1)) + n) rest ∙ (let e : head + (edge_times xs a b + edge_times ys a b) ≡ (head + edge_times xs a b) + edge_times ys a b = omega arith in e)

edge_times-last : (xs : List (ℕ × ℕ)) (c i a b : ℕ) → edge_times (xs ++ (c, i) ∷ []) a b ≡ edge_times xs a b + one_if ((a == c) && (b == i))
edge_times-last xs c i a b = edge_times-append xs ((c, i) ∷ []) a b ∙ ap (λ n. edge_times xs a b + n) (let e : one_if ((a == c) && (b == i)) + 0 ≡ one_if ((a == c) && (b == i)) = omega arith in e)

-- the positions below i, and then that of i as well
one-more : (x q : Bool) (b i : ℕ) (here : Bool) → (b ≡ i → here ≡ q) → one_if (x && (nat_lt b i && q)) + one_if (x && ((b == i) && here)) ≡ one_if (x && (nat_lt b (i + 1) && q))
one-more false q b i here same = refl
one-more true q b i here same = by_order (grind arith)
  where
    by_order : (b < i) ⊎ (i < b) ⊎ (b ≡ i) → one_if (nat_lt b i && q) + one_if ((b == i) && here) ≡ one_if (nat_lt b (i + 1) && q)
    by_order (inl below) = rw (lt-ltb b i below, ne_eqb b i (λ e. omega arith), lt-ltb b (i + 1) (omega arith)) (omega arith)
    by_order (inr (inl above)) = rw (le-ltb b i (omega arith), ne_eqb b i (λ e. omega arith), le-ltb b (i + 1) (omega arith)) refl
    by_order (inr (inr e)) = rw (le-ltb b i (omega arith), eq-eqb b i e, lt-ltb b (i + 1) (omega arith)) (ap (λ z. 0 + one_if z) (same e) ∙ (let z : 0 + one_if q ≡ one_if q = omega arith in z))

-- one more edge of a caller
pub row-pushed : (rows after old : List (List (ℕ × ℕ))) (k c i : ℕ) (row : List ℕ) → after ≡ set rows k (get_or rows k [] ++ (c, i) ∷ []) → k < length rows → k ≡ slice_index row i
    → ((m a b : ℕ) → edge_times (get_or rows m []) a b ≡ edge_times (get_or old m []) a b + one_if ((a == c) && (nat_lt b i && (slice_index row b == m))))
    → (m a b : ℕ) → edge_times (get_or after m []) a b ≡ edge_times (get_or old m []) a b + one_if ((a == c) && (nat_lt b (i + 1) && (slice_index row b == m)))
row-pushed rows after old k c i row is within at counts m a b = ap (λ rs. edge_times (get_or rs m []) a b) is ∙ by_module (cases_eq m k)
  where
    new : List (ℕ × ℕ)
    new = get_or rows k [] ++ (c, i) ∷ []

    by_module : (m ≡ k) ⊎ (m ≢ k) → edge_times (get_or (set rows k (get_or rows k [] ++ (c, i) ∷ [])) m []) a b ≡ edge_times (get_or old m []) a b + one_if ((a == c) && (nat_lt b (i + 1) && (slice_index row b == m)))
    by_module (inl e) =
        let more : one_if ((a == c) && (nat_lt b i && (slice_index row b == m))) + one_if ((a == c) && ((b == i) && true)) ≡ one_if ((a == c) && (nat_lt b (i + 1) && (slice_index row b == m))) =
        one-more (a == c) (slice_index row b == m) b i true (λ here. sym (eq-eqb (slice_index row b) m (ap (slice_index row) here ∙ sym at ∙ sym e))) in
        let old_count : edge_times (get_or rows m []) a b ≡ edge_times (get_or old m []) a b + one_if ((a == c) && (nat_lt b i && (slice_index row b == m))) = counts m a b in
        let same : one_if ((a == c) && ((b == i) && true)) ≡ one_if ((a == c) && (b == i)) = ap (λ z. one_if ((a == c) && z)) (and-true (b == i)) in
        let last : edge_times (get_or (set rows k new) m []) a b ≡ edge_times (get_or rows m []) a b + one_if ((a == c) && (b == i)) =
        ap (λ n. edge_times (get_or (set rows k new) n []) a b) e ∙ ap (λ l. edge_times l a b) (get_or-set_same rows k new [] within) ∙ edge_times-last (get_or rows k []) c i a b
        ∙ ap (λ n. edge_times (get_or rows n []) a b + one_if ((a == c) && (b == i))) (sym e) in
        omega arith
      where
        and-true : (z : Bool) → (z && true) ≡ z
        and-true true = refl
        and-true false = refl
    by_module (inr ne) =
        let more : one_if ((a == c) && (nat_lt b i && (slice_index row b == m))) + one_if ((a == c) && ((b == i) && false)) ≡ one_if ((a == c) && (nat_lt b (i + 1) && (slice_index row b == m))) =
        one-more (a == c) (slice_index row b == m) b i false (λ here. sym (ne_eqb (slice_index row b) m (λ s. ne (sym s ∙ ap (slice_index row) here ∙ sym at)))) in
        let none : one_if ((a == c) && ((b == i) && false)) ≡ 0 = and-none (a == c) (b == i) in
        let old_count : edge_times (get_or rows m []) a b ≡ edge_times (get_or old m []) a b + one_if ((a == c) && (nat_lt b i && (slice_index row b == m))) = counts m a b in
        let other : edge_times (get_or (set rows k new) m []) a b ≡ edge_times (get_or rows m []) a b = ap (λ l. edge_times l a b) (get_or-set_other rows k m new [] ne) in
        omega arith
      where
        and-none : (y z : Bool) → one_if (y && (z && false)) ≡ 0
        and-none true true = refl
        and-none true false = refl
        and-none false z = refl

-- the edges of one more caller
pub caller-more : (callees : List (List ℕ)) (row : List ℕ) (m a b c : ℕ) → callees_of callees c ≡ row
    → one_if (nat_lt a c && goes_from callees m a b) + one_if ((a == c) && (nat_lt b (length row) && (slice_index row b == m))) ≡ one_if (nat_lt a (c + 1) && goes_from callees m a b)
caller-more callees row m a b c is = by_order (grind arith)
  where
    by_order : (a < c) ⊎ (c < a) ⊎ (a ≡ c) → one_if (nat_lt a c && goes_from callees m a b) + one_if ((a == c) && (nat_lt b (length row) && (slice_index row b == m))) ≡ one_if (nat_lt a (c + 1) && goes_from callees m a b)
    by_order (inl below) = rw (lt-ltb a c below, ne_eqb a c (λ e. omega arith), lt-ltb a (c + 1) (omega arith)) (omega arith)
    by_order (inr (inl above)) = rw (le-ltb a c (omega arith), ne_eqb a c (λ e. omega arith), le-ltb a (c + 1) (omega arith)) refl
    by_order (inr (inr e)) =
        let same : (nat_lt b (length row) && (slice_index row b == m)) ≡ goes_from callees m a b = ap (λ r. nat_lt b (length r) && (slice_index r b == m)) (sym is ∙ ap (callees_of callees) (sym e)) in
        rw (le-ltb a c (omega arith), eq-eqb a c e, lt-ltb a (c + 1) (omega arith)) (ap (λ z. 0 + one_if z) same ∙ (let z : 0 + one_if (goes_from callees m a b) ≡ one_if (goes_from callees m a b) = omega arith in z))

-- beyond the modules there are no edges
pub callers-all : (callees : List (List ℕ)) (n m a b : ℕ) → n ≡ length callees → (nat_lt a n && goes_from callees m a b) ≡ goes_from callees m a b
callers-all callees n m a b is = by_order (grind arith)
  where
    by_order : (a < n) ⊎ (n ≤ a) → (nat_lt a n && goes_from callees m a b) ≡ goes_from callees m a b
    by_order (inl below) = ap (λ z. z && goes_from callees m a b) (lt-ltb a n below)
    by_order (inr past) =
        let none : callees_of callees a ≡ [] = get_or-past callees a [] (omega arith) in
        let no_position : nat_lt b (length (callees_of callees a)) ≡ false = le-ltb b (length (callees_of callees a)) (let z : length (callees_of callees a) ≡ 0 = ap length none in omega arith) in
        let fails : goes_from callees m a b ≡ false = ap (λ z. z && (callee callees a b == m)) no_position in
        ap (λ z. z && goes_from callees m a b) (le-ltb a n past) ∙ sym fails
