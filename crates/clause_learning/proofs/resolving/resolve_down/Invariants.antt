use Rattle.clause_learning.specs.Resolving.{IsAnalysis}
use Rattle.clause_learning.proofs.resolving.resolve_down.Given as goal

abbrev pub invariant-loop-count : goal.invariant-loop-count
invariant-loop-count l = IsAnalysis l.trail.variables l.clauses l.trail.entries l.level.floor l.level.keep l.position l.count l.hints.items l.seen

abbrev pub decreases-loop-count : goal.decreases-loop-count
decreases-loop-count l = l.position
