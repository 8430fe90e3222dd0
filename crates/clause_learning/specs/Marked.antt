-- Marks of variables, with a list of the variables that may be marked.
use Rattle.std.specs.Prelude.{ℕ, Bool, true, false, ◌≡◌, ◌<◌, ◌≤◌, ◌+◌, cond, List, [], ◌∷◌, length, slice_index_or}
use Rattle.clause_learning.specs.Learning.{is_seen}

-- how many bits are set
abbrev pub count_marked : List Bool → ℕ
count_marked [] = 0
count_marked (b ∷ bs) = cond b 1 0 + count_marked bs

-- the list has variables, none of them twice; `listed` tells which, and each marked one is among them
pub record AreListed (seen listed : List Bool) (list : List ℕ) : Type 0 where
  pub count : length listed ≡ length seen
  pub low : (k : ℕ) → k < length list → 1 ≤ slice_index_or list k 0
  pub high : (k : ℕ) → k < length list → slice_index_or list k 0 ≤ length seen
  pub there : (k : ℕ) → k < length list → is_seen listed (slice_index_or list k 0) ≡ true
  pub apart : (j k : ℕ) → j < length list → k < length list → slice_index_or list j 0 ≡ slice_index_or list k 0 → j ≡ k
  pub found : (v : ℕ) → 1 ≤ v → is_seen listed v ≡ true → (k : ℕ) × (k < length list) × (slice_index_or list k 0 ≡ v)
  pub each : (v : ℕ) → 1 ≤ v → is_seen seen v ≡ true → is_seen listed v ≡ true
