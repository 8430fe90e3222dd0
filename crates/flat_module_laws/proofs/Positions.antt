-- Lists of numbers from one on, and lists of the same numbers in another order.
use Rattle.std.proofs.Common.{◌≡◌, refl, sym, ap, ap₂, subst, ◌∙◌, ℕ, zero, suc, ◌+◌, ◌<◌, List, [], ◌∷◌, map, length, slice_get, Some, IsPermutation, sum_by, inl, inr, arith}
use Rattle.std.proofs.lemmas.List.Sorted.{Contains-permutation, sum_by-IsPermutation}
use Rattle.std.proofs.lemmas.List.Sums.{sum_by-cons}
use Rattle.wiring.specs.Lists.{total}
use Rattle.wiring.specs.Wiring.{In}
use Rattle.wiring.proofs.Members.{Contains-from_In, In-from_Contains}
use Rattle.graphs.specs.Orders.{numbers_from}

among_numbers : (n start j : ℕ) → j < n → In (start + j) (numbers_from start n)
among_numbers zero start j below = absurd (omega arith)
among_numbers (suc n) start zero below = inl (omega arith)
among_numbers (suc n) start (suc j) below =
    let next : suc start + j ≡ start + suc j = omega arith in
    inr (subst (λ i. In i (numbers_from (suc start) n)) next (among_numbers n (suc start) j (omega arith)))

pub is_among : (n j : ℕ) → j < n → In j (numbers_from 0 n)
is_among n j below = let same : 0 + j ≡ j = omega arith in subst (λ i. In i (numbers_from 0 n)) same (among_numbers n 0 j below)

-- in another order
pub is_in_order : (n : ℕ) (order : List ℕ) → IsPermutation (numbers_from 0 n) order → (j : ℕ) → j < n → In j order
is_in_order n order all j below =
    In-from_Contains j order (Contains-permutation (numbers_from 0 n) order j all (Contains-from_In j (numbers_from 0 n) (is_among n j below)))

-- ---- sums

total-by : (f : ℕ → ℕ) (xs : List ℕ) → total (map f xs) ≡ sum_by f xs
total-by f [] = refl
total-by f (x ∷ xs) = let rest = total-by f xs in let first = sum_by-cons f x xs in omega (arith, rest, first)

pub same_total : (f : ℕ → ℕ) (xs ys : List ℕ) → IsPermutation xs ys → total (map f ys) ≡ total (map f xs)
same_total f xs ys all = total-by f ys ∙ sum_by-IsPermutation f xs ys all ∙ sym (total-by f xs)

-- what each position gives is what its element gives
pub total_at : {A : Type 0} (f : ℕ → ℕ) (g : A → ℕ) (xs : List A) (start : ℕ) → ((i : ℕ) (x : A) → slice_get xs i ≡ Some x → f (start + i) ≡ g x)
    → total (map f (numbers_from start (length xs))) ≡ total (map g xs)
total_at f g [] start each = refl
total_at f g (x ∷ xs) start each =
    let here : start + 0 ≡ start = omega arith in
    ap₂ (λ (a b : ℕ). a + b) (ap f (sym here) ∙ each 0 x refl)
    (total_at f g xs (suc start) (λ i y at. let next : suc start + i ≡ start + suc i = omega arith in ap f next ∙ each (suc i) y at))
