use Rattle.std.proofs.Common.{ℕ, ◌≡◌, ◌<◌, ◌≤◌, ◌⊎◌, length}
use Rattle.cdcl_proof.specs.Order.{Waits}
use Rattle.clause_learning.specs.Trail.{entry_at}
use Rattle.cdcl_proof.specs.Search.{IsSearching}
use Rattle.cdcl_proof.proofs.solve.Search.insert_variables.Given as goal

abbrev pub invariant-loop-index : goal.invariant-loop-index
invariant-loop-index l = record {
  searching : IsSearching l.self;
  formula : l.self.cnf.now ≡ l.fn.self.cnf.now;
  chains : l.self.chains ≡ l.fn.self.chains;
  watched : l.self.watched ≡ l.fn.self.watched;
  waiting : (v : ℕ) → 1 ≤ v → v ≤ l.self.watched.variables → Waits l.self.order.heap.items v ⊎ ((k : ℕ) × (k < length l.self.watched.entries) × ((k < l.position) ⊎ (l.index ≤ k)) × ((entry_at l.self.watched.entries k).literal.variable ≡ v));
}
