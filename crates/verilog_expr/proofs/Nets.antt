-- The values of a body that are made from others by pure operations are first results of its operations.
use Rattle.std.proofs.Common.{◌≡◌, ℕ, zero, suc, ◌<◌, ◌⊎◌, List, [], ◌∷◌, length, Option, Some, None, slice_get, refl, ap, inl, inr, arith}
use Rattle.std.proofs.lemmas.Option.{slice_get_within}
use Rattle.wiring.specs.Wiring.{In, IsWithin}
use Rattle.hw_model.specs.Design.{Ref, Op}
use Rattle.hw_model.specs.Design.Ref.{port, result, undefined}
use Rattle.verilog_expr.specs.Spilling.{inner_of, inner_needs}

-- the first results of n operations
abbrev pub results : ℕ → List Ref
results zero = []
results (suc n) = result n 0 ∷ results n

pub length-results : (n : ℕ) → length (results n) ≡ n
length-results zero = refl
length-results (suc n) = let rest : length (results n) ≡ n = length-results n in omega arith

In-results : (n i : ℕ) → i < n → In (result i 0) (results n)
In-results zero i below = absurd (omega arith)
In-results (suc n) i below = go (grind arith) (In-results n i) where
  go : (i ≡ n) ⊎ (i < n) → (i < n → In (result i 0) (results n)) → In (result i 0) (results (suc n))
  go (inl same) rest = inl (ap (λ j. result j 0) same)
  go (inr less) rest = inr (rest less)

pub IsWithin-results : (os : List Op) → IsWithin (inner_needs os) (results (length os))
IsWithin-results os (port j) b need = absurd need
IsWithin-results os undefined b need = absurd need
IsWithin-results os (result i (suc k)) b need = absurd need
IsWithin-results os (result i zero) b need = go (slice_get os i) refl need where
  go : (m : Option Op) → slice_get os i ≡ m → In b (inner_of m) → In (result i 0) (results (length os))
  go None is need = absurd need
  go (Some o) is need = In-results (length os) i (slice_get_within os i o is)
