use Rattle.std.proofs.Common.{◌≡◌, ◌<◌, length}
use Rattle.cdcl_proof.specs.Search.{IsSearching, AllWait}
use Rattle.cdcl_proof.proofs.solve.Search.sweep.Given as goal

abbrev pub invariant-loop-fuel : goal.invariant-loop-fuel
invariant-loop-fuel g l = IsSearching l.self × AllWait l.self × (l.self.cnf.now ≡ l.fn.self.cnf.now) × (length l.self.chains.items < l.budget)

abbrev pub decreases-loop-fuel : goal.decreases-loop-fuel
decreases-loop-fuel g l = l.fuel
