use Rattle.std.proofs.Common.{◌≡◌, ◌≤◌, length, drop}
use Rattle.clause_learning.specs.Learning.{count_seen}
use Rattle.clause_learning.specs.Resolving.{IsResolving, HasPivotsFrom}
use Rattle.clause_learning.proofs.resolving.resolve_below.Given as goal

abbrev pub invariant-loop-position : goal.invariant-loop-position
invariant-loop-position l = IsResolving l.clauses l.trail.entries l.hints.items l.seen × HasPivotsFrom l.trail.entries l.position l.hints.items
    × (count_seen l.seen (drop l.floor l.trail.entries) ≡ count_seen l.fn.seen (drop l.floor l.trail.entries)) × (length l.seen ≡ l.trail.variables) × (l.position ≤ l.floor)

abbrev pub decreases-loop-position : goal.decreases-loop-position
decreases-loop-position l = l.position
