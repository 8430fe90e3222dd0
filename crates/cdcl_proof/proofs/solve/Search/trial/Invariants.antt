use Rattle.std.proofs.Common.{◌≡◌, ◌+◌, ◌-◌, ◌*◌, ◌<◌, length}
use Rattle.cdcl_proof.specs.Search.{IsSearching, AllWait}
use Rattle.cdcl_proof.proofs.solve.Search.trial.Given as goal

abbrev pub invariant-loop-conflict : goal.invariant-loop-conflict
invariant-loop-conflict l = IsSearching l.self × AllWait l.self × (l.self.cnf.now ≡ l.fn.self.cnf.now) × (length l.self.chains.items < l.budget)

abbrev pub decreases-loop-conflict : goal.decreases-loop-conflict
decreases-loop-conflict l = (l.budget - length l.self.chains.items) * (l.fn.self.cnf.now.variables + 1) + (l.fn.self.cnf.now.variables - length l.self.watched.entries)
