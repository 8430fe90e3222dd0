use Rattle.std.proofs.Common.{take}
use Rattle.clause_learning.specs.Trail.{literals}
use Rattle.clause_learning.specs.Propagation.{IsScan}
use Rattle.clause_learning.proofs.propagation.state_of.Given as goal

abbrev pub invariant-loop-literal : goal.invariant-loop-literal
invariant-loop-literal l = IsScan (literals l.trail.entries) (take l.literal-index l.clause) l.single
