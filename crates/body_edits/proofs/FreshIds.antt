-- An id that is not among some.
use Rattle.std.proofs.Common.{ℕ, zero, suc, ◌+◌, ◌<◌, List, [], ◌∷◌, arith}
use Rattle.std.specs.Prelude.{Contains}

bound_of : (ids : List ℕ) → (n : ℕ) × ((x : ℕ) → Contains ids x → x < n)
bound_of [] = (0, λ x c. absurd (omega (arith, c.1)))
bound_of (i ∷ ids) = let rest = bound_of ids in (suc (i + rest.0), step rest.0 rest.1)
  where
    step : (n : ℕ) → ((x : ℕ) → Contains ids x → x < n) → (x : ℕ) → Contains (i ∷ ids) x → x < suc (i + n)
    step n below x (zero, l, e) = omega (arith, e)
    step n below x (suc k, l, e) = omega (arith, below x (k, omega (arith, l), e))

pub fresh_id : (ids : List ℕ) → (n : ℕ) × (Contains ids n → ⊥)
fresh_id ids = let b = bound_of ids in (b.0, λ c. absurd (omega (arith, b.1 b.0 c)))
