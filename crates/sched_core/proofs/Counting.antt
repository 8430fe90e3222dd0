-- Lists of callees row by row: leaves found so far, entries counted so far.
use Rattle.std.proofs.Common.{◌≡◌, ℕ, zero, suc, ◌+◌, ◌*◌, ◌^◌, ◌<◌, ◌≤◌, ◌⊎◌, Bool, cond, List, [], ◌∷◌, ◌++◌, length, get_or, map, drop, refl, sym, ap, subst, ◌∙◌, inl, inr, arith, append_assoc}
use Rattle.std.specs.Prelude.{◌==◌}
use Rattle.std.proofs.lemmas.Bool.{cases_lt, ne_eqb}
use Rattle.std.proofs.Math.Nat.{mul-le-mul_right}
use Rattle.std.proofs.lemmas.List.{get_or-map}
use Rattle.wiring.specs.Wiring.{In}
use Rattle.sched_core.specs.Sums.{sum_below, one_if}
use Rattle.sched_core.specs.State.{callees_of, leaves, leaves_from}
use Rattle.sched_core.specs.Counts.{times_in}
use Rattle.sched_core.specs.Runs.{AreCallees}
use Rattle.sched_core.proofs.SumLemmas.{sum_below-le, one_if-le}
use Rattle.sched_core.proofs.EdgeSums.{sum_below-le_each}
use Rattle.sched_core.proofs.Reading.{get_or-past}
use Rattle.sched_core.proofs.RunLemmas.{in_entry}

-- the row of a module
pub callees_of-map : {A : Type 0} (f : A → List ℕ) (rows : List A) (c : ℕ) (row : A) → c < length rows → row ≡ get_or rows c row → callees_of (map f rows) c ≡ f row
callees_of-map f rows c row within is = get_or-map f rows c row [] within ∙ ap f (sym is)

drop_row : (callees : List (List ℕ)) (i : ℕ) → i < length callees → drop i callees ≡ callees_of callees i ∷ drop (i + 1) callees
drop_row [] i within = absurd (omega arith)
drop_row (row ∷ rest) zero within = refl
drop_row (row ∷ rest) (suc i) within =
    let up : suc i + 1 ≡ suc (i + 1) = omega arith in
    drop_row rest i (omega arith) ∙ ap (λ n. callees_of rest i ∷ drop n (row ∷ rest)) (sym up)

-- the leaves from a row on: itself where it is empty, and those of the rest
leaves_from-row : (k : ℕ) (row : List ℕ) (rest : List (List ℕ)) → leaves_from k (row ∷ rest) ≡ cond (length row == 0) (k ∷ []) [] ++ leaves_from (k + 1) rest
leaves_from-row k [] rest = refl
leaves_from-row k (x ∷ xs) rest =
    sym (ap (λ b. cond b (k ∷ []) [] ++ leaves_from (k + 1) rest) (ne_eqb (suc (length xs)) 0 (λ same. absurd (omega arith))))

-- one more row leaves the leaves found so far and those to come the same
pub leaves-more : (callees : List (List ℕ)) (found : List ℕ) (i : ℕ) (is_leaf : Bool) → i < length callees → is_leaf ≡ (length (callees_of callees i) == 0)
    → found ++ leaves_from i (drop i callees) ≡ leaves callees
    → (found ++ cond is_leaf (i ∷ []) []) ++ leaves_from (i + 1) (drop (i + 1) callees) ≡ leaves callees
leaves-more callees found i is_leaf within is so_far =
    append_assoc found (cond is_leaf (i ∷ []) []) (leaves_from (i + 1) (drop (i + 1) callees))
    ∙ ap (λ b. found ++ (cond b (i ∷ []) [] ++ leaves_from (i + 1) (drop (i + 1) callees))) is
    ∙ ap (λ xs. found ++ xs) (sym (ap (leaves_from i) (drop_row callees i within) ∙ leaves_from-row i (callees_of callees i) (drop (i + 1) callees)))
    ∙ so_far

-- a count of entries is at most their number
pub times_in-le : (row : List ℕ) (m : ℕ) → times_in row m ≤ length row
times_in-le row m = sum_below-le (length row) (λ i. one_if (get_or row i 0 == m)) (λ i. one_if-le (get_or row i 0 == m))

-- the counts so far leave room for one more row
pub uses-room : (callees : List (List ℕ)) (uses : List ℕ) (i : ℕ) → AreCallees callees → i < length callees → length uses ≡ length callees
    → ((m : ℕ) → m < length callees → get_or uses m 0 ≡ sum_below i (λ c. times_in (callees_of callees c) m))
    → (m : ℕ) → get_or uses m 0 + length (callees_of callees i) < 2 ^ 64
uses-room callees uses i are within size counts m = go (cases_lt m (length callees))
  where
    row : length (callees_of callees i) < 2 ^ 32
    row = are.entries i

    few : length callees < 2 ^ 32
    few = are.modules

    go : (m < length callees) ⊎ (length callees ≤ m) → get_or uses m 0 + length (callees_of callees i) < 2 ^ 64
    go (inl is_module) =
        let bound : sum_below i (λ c. times_in (callees_of callees c) m) ≤ i * 4294967295 =
        sum_below-le_each i 4294967295 (λ c. times_in (callees_of callees c) m)
        (λ c below. let one : times_in (callees_of callees c) m ≤ length (callees_of callees c) = times_in-le (callees_of callees c) m in
        let small : length (callees_of callees c) < 2 ^ 32 = are.entries c in omega arith) in
        let most : i * 4294967295 ≤ 4294967294 * 4294967295 = mul-le-mul_right {m = i} {n = 4294967294} 4294967295 (omega (arith, few)) in
        omega (arith, counts m is_module, row)
    go (inr past) = let none : get_or uses m 0 ≡ 0 = get_or-past uses m 0 (omega arith) in omega (arith, row)

-- the counts after one more row
pub uses-more : (callees : List (List ℕ)) (i m old new : ℕ) (row : List ℕ) → callees_of callees i ≡ row → old ≡ sum_below i (λ c. times_in (callees_of callees c) m)
    → new ≡ old + times_in row m → new ≡ sum_below (i + 1) (λ c. times_in (callees_of callees c) m)
uses-more callees i m old new row is so_far more =
    let next : i + 1 ≡ suc i = omega arith in
    let here : times_in row m ≡ times_in (callees_of callees i) m = ap (λ xs. times_in xs m) (sym is) in
    let sum : new ≡ sum_below i (λ c. times_in (callees_of callees c) m) + times_in (callees_of callees i) m = omega arith in
    sum ∙ ap (λ n. sum_below n (λ c. times_in (callees_of callees c) m)) (sym next)

-- an entry of a row is a module
pub entry-lt : (callees : List (List ℕ)) (c i : ℕ) (row : List ℕ) → AreCallees callees → callees_of callees c ≡ row → i < length row → get_or row i 0 < length callees
entry-lt callees c i row are is within = are.within c (get_or row i 0) (subst (λ xs. In (get_or row i 0) xs) (sym is) (in_entry row i within))
