-- The order of decisions.
use Rattle.std.specs.Prelude.{ℕ, ◌≡◌, ◌<◌, ◌≤◌, ◌^◌, List, length, slice_index_or}
use Rattle.cdcl_proof.specs.declared.order.Order.{Order}

-- the variable stands in the heap
abbrev pub Waits : List ℕ → ℕ → Type 0
Waits heap v = (p : ℕ) × (p < length heap) × (slice_index_or heap p 0 ≡ v)

-- who waited still waits
abbrev pub KeepsWaiting : List ℕ → List ℕ → Type 0
KeepsWaiting old new = (v : ℕ) → Waits old v → Waits new v

-- there is an activity and a position for each variable, and only variables wait
pub record IsOrder (variables : ℕ) (o : Order) : Type 0 where
  pub activities : length o.activities.items ≡ variables
  pub positions : length o.positions.items ≡ variables
  pub small : variables < 2 ^ 31
  pub among : (p : ℕ) → p < length o.heap.items → (1 ≤ slice_index_or o.heap.items p 0) × (slice_index_or o.heap.items p 0 ≤ variables)
