use Rattle.std.proofs.Common.{◌≡◌, length}
use Rattle.cdcl_proof.specs.Search.{IsSearching, AllWait}
use Rattle.cdcl_proof.proofs.solve.Search.pop_unassigned.Given as goal

abbrev pub invariant-loop-variable : goal.invariant-loop-variable
invariant-loop-variable l = record {
  searching : IsSearching l.self;
  formula : l.self.cnf.now ≡ l.fn.self.cnf.now;
  chains : l.self.chains ≡ l.fn.self.chains;
  watched : l.self.watched ≡ l.fn.self.watched;
  waiting : AllWait l.self;
}

abbrev pub decreases-loop-variable : goal.decreases-loop-variable
decreases-loop-variable l = length l.self.order.heap.items
