use Rattle.std.proofs.Common.{◌≤◌, ◌+◌}
use Rattle.clause_learning.specs.Resolving.{IsAnalysis}
use Rattle.clause_learning.proofs.resolving.resolve_level.Given as goal

abbrev pub invariant-loop-position : goal.invariant-loop-position
invariant-loop-position l = IsAnalysis l.trail.variables l.clauses l.trail.entries l.floor 1 l.position l.count l.hints.items l.seen × (l.floor + 1 ≤ l.position)

abbrev pub decreases-loop-position : goal.decreases-loop-position
decreases-loop-position l = l.position
