use Rattle.std.proofs.Common.{◌≡◌, ◌+◌, ◌-◌, ◌*◌, ◌<◌, length}
use Rattle.cdcl_proof.specs.Search.{IsSearching, AllWait}
use Rattle.cdcl_proof.proofs.solve.Search.run.Given as goal

abbrev pub invariant-loop-search : goal.invariant-loop-search
invariant-loop-search l = IsSearching l.search × AllWait l.search × (l.search.cnf.now ≡ l.fn.self.cnf.now) × (length l.search.chains.items < l.budget)

abbrev pub decreases-loop-search : goal.decreases-loop-search
decreases-loop-search l = (l.budget - length l.search.chains.items) * (l.fn.self.cnf.now.variables + 1) + (l.fn.self.cnf.now.variables - length l.search.watched.entries)
