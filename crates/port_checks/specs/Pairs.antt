-- Pairs of ports by their numbers, and how lists of what is joined to each port come about.
use Rattle.std.specs.Prelude.{◌≡◌, ℕ, ◌<◌, ◌⊎◌, List, [], ◌∷◌, length, Option, Some}
use Rattle.wiring.specs.Wiring.{In}
use Rattle.graphs.specs.Graphs.{edges}

-- a port, and one that is joined to it
pub record Pair : Type 0 where
  pub to : ℕ
  pub port : ℕ

abbrev pub pair : ℕ → ℕ → Pair
pair to port = record { to = to; port = port }

-- the pair of two ports, where there are both
abbrev pub pair_of : Option ℕ → Option ℕ → List Pair
pair_of (Some to) (Some port) = pair to port ∷ []
pair_of _ _ = []

-- the lists have the pairs beside what they had
pub record AddsPairs (pairs : List Pair) (old new : List (List ℕ)) : Type 0 where
  pub count : length new ≡ length old
  pub kept : (v w : ℕ) → In w (edges old v) → In w (edges new v)
  pub from : (v w : ℕ) → In w (edges new v) → In w (edges old v) ⊎ In (pair v w) pairs
  pub all : (v w : ℕ) → In (pair v w) pairs → v < length old → In w (edges new v)
