-- Numbers and marks of modules.
use Rattle.std.specs.Prelude.{◌≡◌, ◌↔◌, ℕ, ◌<◌, Bool, false, cond, List, [], ◌∷◌, length, MatchBool, Some, slice_get}
use Rattle.wiring.specs.Wiring.{In}
use Rattle.graphs.specs.Graphs.{has_mark}
use Rattle.hw_model.specs.Design.{Module, Design}
use Rattle.pass_laws.specs.Remaining.{IsReached}

-- module i is a public one
abbrev pub IsPublicAt : Design → ℕ → Type 0
IsPublicAt d i = (m : Module) × (slice_get d i ≡ Some m) × (m.is_private ≡ false)

-- the numbers are those of the public modules among the first n
abbrev pub ArePublicBefore : Design → ℕ → List ℕ → Type 0
ArePublicBefore d n numbers = (i : ℕ) → In i numbers ↔ ((i < n) × IsPublicAt d i)

-- the marks say which modules are reached from public ones
pub record AreReachedMarks (d : Design) (marks : List Bool) : Type 0 where
  pub count : length marks ≡ length d
  pub says : (i : ℕ) (m : Module) → slice_get d i ≡ Some m → MatchBool (has_mark marks i) (IsReached d m.symbol) (IsReached d m.symbol → ⊥)

-- the members of a list that have their mark, in order
abbrev pub marked : {A : Type 0} → List Bool → List A → List A
marked [] xs = []
marked (b ∷ bs) [] = []
marked (b ∷ bs) (x ∷ xs) = cond b (x ∷ marked bs xs) (marked bs xs)
