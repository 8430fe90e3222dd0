use Rattle.std.proofs.Common.{length}
use Rattle.clause_learning.specs.Marked.{count_marked}
use Rattle.clause_learning.specs.Gathering.{IsGathering}
use Rattle.clause_learning.proofs.marked_clause.gather.Given as goal

abbrev pub invariant-loop-variable : goal.invariant-loop-variable
invariant-loop-variable l = IsGathering l.fn.seen l.seen l.trail.entries l.literals.items l.start

abbrev pub decreases-loop-variable : goal.decreases-loop-variable
decreases-loop-variable l = count_marked l.seen
