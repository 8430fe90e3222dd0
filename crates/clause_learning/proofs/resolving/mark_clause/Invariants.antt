use Rattle.std.proofs.Common.{◌≡◌, length, take, drop}
use Rattle.clause_learning.specs.Learning.{count_seen}
use Rattle.clause_learning.specs.Resolving.{AddsMarks}
use Rattle.clause_learning.proofs.resolving.mark_clause.Given as goal

abbrev pub invariant-loop-literal : goal.invariant-loop-literal
invariant-loop-literal l = (l.count ≡ count_seen l.seen (drop l.floor l.trail.entries)) × (length l.seen ≡ l.trail.variables) × AddsMarks l.fn.seen l.seen l.pivot (take l.literal-index l.clause)
