-- Indices of arrays (CIRCT, HW dialect: `hw.array_get`).
use Rattle.std.specs.Prelude.{ℕ, ◌^◌, ◌≤◌}

-- the width of the indices of an array of n elements: the least of at least 1 that has a number for each
pub record IsIndexWidth (n k : ℕ) : Type 0 where
  pub some : 1 ≤ k
  pub enough : n ≤ 2 ^ k
  pub least : (j : ℕ) → 1 ≤ j → n ≤ 2 ^ j → k ≤ j
