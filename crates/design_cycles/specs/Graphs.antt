-- What is asked of graphs: what some node leads to, what leads back to itself.
use Rattle.std.specs.Prelude.{◌≡◌, ℕ, ◌+◌, ◌<◌, ◌≤◌, Bool, true, List, length, Option, Some}
use Rattle.wiring.specs.Wiring.{In, Chain, Depends}
use Rattle.graphs.specs.Graphs.{edges, has_mark}

-- from a node, where there is one, a chain leads to v
abbrev pub LeadsTo : List (List ℕ) → Option ℕ → ℕ → Type 0
LeadsTo lists from v = (a : ℕ) × (from ≡ Some a) × ((k : ℕ) × Chain (edges lists) k a v)

-- what some node needs and is there has its mark, and nothing else has
pub record AreCalled (lists : List (List ℕ)) (marks : List Bool) : Type 0 where
  pub count : length marks ≡ length lists
  pub sound : (v : ℕ) → has_mark marks v ≡ true → (i : ℕ) × In v (edges lists i)
  pub all : (i v : ℕ) → In v (edges lists i) → v < length lists → has_mark marks v ≡ true

-- one of so many nodes from one on depends on itself
abbrev pub ReturnsWithin : List (List ℕ) → ℕ → ℕ → Type 0
ReturnsWithin lists start size = (v : ℕ) × (start ≤ v) × (v < start + size) × Depends (edges lists) v v
