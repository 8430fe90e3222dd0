-- Graphs: for each node, by its number, the nodes that it leads to.
use Rattle.std.specs.Prelude.{◌≡◌, ℕ, zero, suc, ◌<◌, Bool, true, false, List, [], ◌∷◌, map, length, slice_index_or}
use Rattle.wiring.specs.Wiring.{In, Chain}
use Rattle.graphs.specs.declared.graph.NodeList.{NodeList}

-- the lists of the nodes
abbrev pub lists_of : List NodeList → List (List ℕ)
lists_of graph = map (λ (n : NodeList). n.nodes.items) graph

-- what a node leads to; a node that is not there leads to nothing
abbrev pub edges : List (List ℕ) → ℕ → List ℕ
edges lists v = slice_index_or lists v []

-- a list n times over
abbrev pub times_over : ℕ → List ℕ → List (List ℕ)
times_over zero xs = []
times_over (suc n) xs = xs ∷ times_over n xs

-- whether a node has its mark
abbrev pub has_mark : List Bool → ℕ → Bool
has_mark marks v = slice_index_or marks v false

-- the marks say which nodes are reached from the starts, in any number of steps
pub record AreReached (lists : List (List ℕ)) (starts : List ℕ) (marks : List Bool) : Type 0 where
  pub count : length marks ≡ length lists
  pub sound : (b : ℕ) → has_mark marks b ≡ true → (a : ℕ) × (k : ℕ) × In a starts × Chain (edges lists) k a b
  pub complete : (a k b : ℕ) → In a starts → Chain (edges lists) k a b → b < length lists → has_mark marks b ≡ true
