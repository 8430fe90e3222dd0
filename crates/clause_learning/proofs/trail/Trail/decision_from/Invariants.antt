use Rattle.clause_learning.specs.Trail.{NoDecision}
use Rattle.clause_learning.proofs.trail.Trail.decision_from.Given as goal

abbrev pub invariant-loop-position : goal.invariant-loop-position
invariant-loop-position l = NoDecision l.self-inside.entries.items l.start l.position
