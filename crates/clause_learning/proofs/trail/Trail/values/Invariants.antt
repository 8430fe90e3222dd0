use Rattle.std.proofs.Common.{◌≡◌, take, map}
use Rattle.clause_learning.specs.Trail.{sign_of}
use Rattle.clause_learning.proofs.trail.Trail.values.Given as goal

abbrev pub invariant-loop-mark : goal.invariant-loop-mark
invariant-loop-mark l = l.values.items ≡ map sign_of (take l.mark-index l.mark-items)
