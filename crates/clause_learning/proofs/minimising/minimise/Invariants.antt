use Rattle.std.proofs.Common.{◌≡◌, ◌≤◌, length, drop}
use Rattle.clause_learning.specs.Learning.{count_seen}
use Rattle.clause_learning.specs.Resolving.{IsResolving, HasPivotsFrom}
use Rattle.clause_learning.proofs.minimising.minimise.Given as goal

abbrev pub invariant-loop-place : goal.invariant-loop-place
invariant-loop-place l = IsResolving l.clauses l.trail.entries l.hints.items l.seen × HasPivotsFrom l.trail.entries l.last l.hints.items
    × (count_seen l.seen (drop l.floor l.trail.entries) ≡ count_seen l.fn.seen (drop l.floor l.trail.entries)) × (length l.seen ≡ l.trail.variables) × (l.last ≤ l.floor)

abbrev pub decreases-loop-place : goal.decreases-loop-place
decreases-loop-place l = length l.places.items
