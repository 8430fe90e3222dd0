-- Suffixed names that are known to be taken.
use Rattle.std.specs.Prelude.{◌≡◌, ℕ, ◌<◌, ◌≤◌, true, List, length, Some, slice_get}
use Rattle.fresh_names.specs.Fresh.{Name, is_taken, with_suffix}

-- each name with a smaller number is taken
pub record IsTried (taken : List Name) (wanted : Name) (n : ℕ) : Type 0 where
  pub within : n ≤ length taken
  pub taken_below : (k : ℕ) → k < n → is_taken taken (with_suffix wanted k) ≡ true

-- so it is for each name and its number
abbrev pub AreTried : List Name → List ℕ → Type 0
AreTried taken numbers = (i n : ℕ) (name : Name) → slice_get taken i ≡ Some name → slice_get numbers i ≡ Some n → IsTried taken name n
