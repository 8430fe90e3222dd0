-- A table of the positions of ids.
use Rattle.std.specs.Prelude.{◌≡◌, ℕ, ◌<◌, List, length, Some, slice_get}

-- the positions are those of the ids; a number that is no id has none below their number
pub record ArePositions (ids positions : List ℕ) : Type 0 where
  pub known : (j q : ℕ) → slice_get ids j ≡ Some q → slice_get positions q ≡ Some j
  pub real : (q j : ℕ) → slice_get positions q ≡ Some j → j < length ids → slice_get ids j ≡ Some q
