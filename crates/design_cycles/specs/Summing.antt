-- Modules summed up: of each output the inputs that it depends on.
use Rattle.std.specs.Prelude.{◌≡◌, ℕ, suc, ◌<◌, cond, Bool, List, [], ◌∷◌, length, Option, Some, slice_get}
use Rattle.wiring.specs.Wiring.{In}
use Rattle.hw_model.specs.Types.{Name}
use Rattle.hw_model.specs.Design.{Port, Module, Design}
use Rattle.hw_model.specs.Hierarchy.{calls}
use Rattle.graphs.specs.Graphs.{edges, has_mark}
use Rattle.design_cycles.specs.Graphs.{LeadsTo}
use Rattle.design_cycles.specs.Local.{IsSummary}
use Rattle.design_cycles.specs.Nodes.{table_by}

-- the positions of the inputs, the first port standing at a position
abbrev pub inputs_from : ℕ → List Port → List ℕ
inputs_from p [] = []
inputs_from p (q ∷ qs) = cond q.is_output (inputs_from (suc p) qs) (p ∷ inputs_from (suc p) qs)

-- the numbers of the nodes that have their marks, the first having a number
abbrev pub reached_numbers : List Bool → ℕ → List ℕ → List ℕ
reached_numbers marks n [] = []
reached_numbers marks n (v ∷ vs) = cond (has_mark marks v) (n ∷ reached_numbers marks (suc n) vs) (reached_numbers marks (suc n) vs)

-- the numbers are those of the inputs to which a node leads
pub record AreInputs (lists : List (List ℕ)) (inputs : List ℕ) (from : Option ℕ) (numbers : List ℕ) : Type 0 where
  pub sound : (x : ℕ) → In x numbers → (v : ℕ) × (slice_get inputs x ≡ Some v) × LeadsTo lists from v
  pub complete : (x v : ℕ) → slice_get inputs x ≡ Some v → v < length lists → LeadsTo lists from v → In x numbers

-- the outputs are, for each of the nodes, the numbers of the inputs to which it leads
pub record AreOutputs (lists : List (List ℕ)) (inputs : List ℕ) (nodes : List (Option ℕ)) (outputs : List (List ℕ)) : Type 0 where
  pub count : length outputs ≡ length nodes
  pub each : (k : ℕ) (from : Option ℕ) → slice_get nodes k ≡ Some from → AreInputs lists inputs from (edges outputs k)

-- the lists sum up module i
abbrev pub IsSummed : Design → List (List ℕ) → ℕ → Type 0
IsSummed d lists i = (one : Module) → slice_get d i ≡ Some one → IsSummary d (λ _ k. edges lists k) one.symbol

-- the lists of symbols sum up the modules that the module of a symbol instances
abbrev pub KnowsCallees : Design → (Name → List (List ℕ)) → Name → Type 0
KnowsCallees d bit_sets top = (s : Name) → In s (calls d top) → IsSummary d (table_by bit_sets) s
