-- Literals without a driver, gates by their places, and ranks of gates.
use Rattle.std.specs.Prelude.{ℕ, ◌+◌, ◌<◌, Bool, true, not, ◌&&◌, ◌==◌, nat_lt, nat_le, List, [], ◌∷◌, map, slice_index_or}
use Rattle.wiring.specs.Wiring.{In, Chain}
use Rattle.graphs.specs.Graphs.{edges}
use Rattle.aiger_laws.specs.declared.tree.AndGate.{AndGate}
use Rattle.aiger_laws.specs.Trees.{variable}
use Rattle.aiger_laws.specs.Drivers.{Driver, nothing, input_bit, held_bit, gate_bit}
use Rattle.aiger_laws.specs.Rows.{is_driven}
use Rattle.aiger_reader.specs.declared.needs.GateNeeds.{GateNeeds}

-- the literal's variable has no driver and is not that of constants
abbrev pub lacks : (ℕ → Driver) → ℕ → Bool
lacks drivers l = not (variable l == 0) && not (is_driven (drivers (variable l)))

-- the place of the gate that a driver is; else one that no gate has
abbrev pub place_in : Driver → ℕ
place_in (gate_bit k) = k
place_in (input_bit k) = 4294967295
place_in (held_bit k) = 4294967295
place_in nothing = 4294967295

-- the places of the gates that a gate needs
abbrev pub places : (ℕ → Driver) → AndGate → List ℕ
places drivers g = place_in (drivers (variable g.left)) ∷ place_in (drivers (variable g.right)) ∷ []

-- the places that each gate needs, as a graph
abbrev pub lists_in : List GateNeeds → List (List ℕ)
lists_in needs = map (λ (n : GateNeeds). n.left ∷ n.right ∷ []) needs

-- the node needs itself, directly or through others
abbrev pub IsLooping : List (List ℕ) → ℕ → Type 0
IsLooping lists k = (m : ℕ) × (t : ℕ) × In t (edges lists k) × Chain (edges lists) m t k

-- no node before one of that place loops, and that one does
pub record IsFirstLooping (lists : List (List ℕ)) (k : ℕ) : Type 0 where
  pub on : IsLooping lists k
  pub first : (j : ℕ) → j < k → IsLooping lists j → ⊥

-- the rank of a node, or 0
abbrev pub rank_of : List ℕ → ℕ → ℕ
rank_of ranks k = slice_index_or ranks k 0

-- what a gate needs has ranks of at most that of its place
abbrev pub is_falling_at : List ℕ → ℕ → GateNeeds → Bool
is_falling_at ranks k n = nat_le (rank_of ranks n.left) (rank_of ranks k) && nat_le (rank_of ranks n.right) (rank_of ranks k)

-- the same of gates one after another, of which the first has that place
abbrev pub are_falling : List ℕ → ℕ → List GateNeeds → Bool
are_falling ranks k [] = true
are_falling ranks k (n ∷ ns) = is_falling_at ranks k n && are_falling ranks (k + 1) ns

-- what a gate needs has ranks below that of its place
abbrev pub goes_down : List ℕ → ℕ → GateNeeds → Bool
goes_down ranks k n = nat_lt (rank_of ranks n.left) (rank_of ranks k) && nat_lt (rank_of ranks n.right) (rank_of ranks k)
