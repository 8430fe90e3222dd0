use Rattle.std.proofs.Common.{◌≤◌, length}
use Rattle.clause_learning.specs.Trail.{NoDecision}
use Rattle.clause_learning.proofs.trail.Trail.last_decision.Given as goal

abbrev pub invariant-loop-position : goal.invariant-loop-position
invariant-loop-position l = (l.position ≤ length l.self-inside.entries.items) × NoDecision l.self-inside.entries.items l.position (length l.self-inside.entries.items)

abbrev pub decreases-loop-position : goal.decreases-loop-position
decreases-loop-position l = l.position
