-- What a search keeps.
use Rattle.std.specs.Prelude.{ℕ, true, ◌≡◌, ◌≤◌, ◌≢◌, ◌⊎◌, length, take}
use Rattle.cdcl_proof.specs.declared.solve.Search.{Search}
use Rattle.clause_learning.specs.Trail.{IsSound, literals}
use Rattle.resolution_proof.specs.Literal.{mentions}
use Rattle.cdcl_proof.specs.Order.{IsOrder, Waits}
use Rattle.cdcl_proof.specs.Store.{IsLogged}

-- the trail stands over the known clauses, and each list has a position for each variable
pub record IsSearching (s : Search) : Type 0 where
  pub variables : s.watched.variables ≡ s.cnf.now.variables
  pub logged : IsLogged s.cnf.now s.watched.clauses s.chains.items
  pub sound : IsSound s.watched.variables s.watched.clauses s.watched.entries
  pub seen : length s.seen ≡ s.watched.variables
  pub order : IsOrder s.watched.variables s.order
  pub phases : length s.phases.items ≡ s.watched.variables

-- each unassigned variable waits for a decision
abbrev pub AllWait : Search → Type 0
AllWait s = (v : ℕ) → 1 ≤ v → v ≤ s.watched.variables → Waits s.order.heap.items v ⊎ (mentions (literals s.watched.entries) v ≡ true)

-- each variable that is unassigned before the position waits
abbrev pub WaitFrom : Search → ℕ → Type 0
WaitFrom s position = (v : ℕ) → 1 ≤ v → v ≤ s.watched.variables → Waits s.order.heap.items v ⊎ (mentions (literals (take position s.watched.entries)) v ≡ true)

-- each unassigned variable but one waits
abbrev pub OthersWait : Search → ℕ → Type 0
OthersWait s w = (v : ℕ) → 1 ≤ v → v ≤ s.watched.variables → v ≢ w → Waits s.order.heap.items v ⊎ (mentions (literals s.watched.entries) v ≡ true)
