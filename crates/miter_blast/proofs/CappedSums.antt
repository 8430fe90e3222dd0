-- Sums, and sums up to a most.
use Rattle.std.proofs.Common.{◌≡◌, ℕ, zero, suc, ◌+◌, min, List, [], ◌∷◌, map, take, slice_get, Some, sym, ap, ◌∙◌, arith}
use Rattle.wiring.specs.Lists.{total}
use Rattle.hw_model.proofs.FieldSums.{capped_more}

module _ {A : Type 0} (f : A → ℕ) where
  total_taken : (xs : List A) (i : ℕ) (x : A) → slice_get xs i ≡ Some x → total (map f (take (i + 1) xs)) ≡ total (map f (take i xs)) + f x
  total_taken [] i x at = cc
  total_taken (y ∷ xs) zero x at = let same : Some y ≡ Some x = at in let value : f y ≡ f x = cc in omega (arith, value)
  total_taken (y ∷ xs) (suc i) x at =
      let rest = total_taken xs i x at in
      let next : suc i + 1 ≡ suc (i + 1) = omega arith in
      ap (λ (n : ℕ). total (map f (take n (y ∷ xs)))) next
      ∙ (let sum : f y + total (map f (take (i + 1) xs)) ≡ f y + total (map f (take i xs)) + f x = omega (arith, rest) in sum)

  -- one more member
  pub total_more : (xs : List A) (i : ℕ) (x : A) (sum now next m : ℕ) → slice_get xs i ≡ Some x → sum ≡ min (total (map f (take i xs))) m → now ≡ min (f x) m
      → next ≡ min (sum + now) m → next ≡ min (total (map f (take (i + 1) xs))) m
  total_more xs i x sum now next m at s n e =
      capped_more (total (map f (take i xs))) (f x) sum now next m s n e ∙ ap (λ k. min k m) (sym (total_taken xs i x at))

  -- sums of two numbers for each member
  pub total_both : (g : A → ℕ) (xs : List A) → total (map f xs) + total (map g xs) ≡ total (map (λ x. f x + g x) xs)
  total_both g [] = omega arith
  total_both g (x ∷ xs) = let rest = total_both g xs in omega (arith, rest)
