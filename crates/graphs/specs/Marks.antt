-- Marks of nodes, and what a pass over nodes does to them.
use Rattle.std.specs.Prelude.{◌≡◌, ℕ, suc, ◌+◌, ◌<◌, ◌⊎◌, Bool, true, cond, List, [], ◌∷◌, length}
use Rattle.wiring.specs.Wiring.{In}
use Rattle.graphs.specs.Graphs.{has_mark}

-- how many marks are not set
abbrev pub open_count : List Bool → ℕ
open_count [] = 0
open_count (m ∷ ms) = cond m (open_count ms) (suc (open_count ms))

-- the nodes that are there have their marks, and those that had none wait
pub record MarksAll (nodes : List ℕ) (old new : List Bool) (waited waiting : List ℕ) : Type 0 where
  pub count : length new ≡ length old
  pub kept : (b : ℕ) → has_mark old b ≡ true → has_mark new b ≡ true
  pub cases : (b : ℕ) → has_mark new b ≡ true → (has_mark old b ≡ true) ⊎ (In b nodes × In b waiting)
  pub all : (b : ℕ) → In b nodes → b < length old → has_mark new b ≡ true
  pub waits : (b : ℕ) → In b waited → In b waiting
  pub comes : (b : ℕ) → In b waiting → In b waited ⊎ ((b < length old) × (has_mark new b ≡ true))
  pub size : open_count new + length waiting ≡ open_count old + length waited
