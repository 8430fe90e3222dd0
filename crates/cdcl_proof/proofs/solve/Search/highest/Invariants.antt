use Rattle.std.proofs.Common.{IfSome}
use Rattle.clause_learning.specs.Trail.{literals}
use Rattle.cdcl_proof.specs.Sweeping.{IsOpen}
use Rattle.cdcl_proof.proofs.solve.Search.highest.Given as goal

abbrev pub invariant-loop-variable : goal.invariant-loop-variable
invariant-loop-variable l = IfSome l.best (IsOpen l.self.watched.variables (literals l.self.watched.entries))
