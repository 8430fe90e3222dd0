use Rattle.std.proofs.Common.{◌≡◌, ◌≤◌, ◌+◌, length, vec_capacity}
use Rattle.clause_learning.specs.Marked.{AreListed}
use Rattle.clause_learning.proofs.marked.Marked.take.Given as goal

abbrev pub invariant-loop-variable : goal.invariant-loop-variable
invariant-loop-variable l = AreListed l.self-inside.seen.items l.self-inside.listed.items l.self-inside.list.items × (length l.self-inside.seen.items + 2 ≤ vec_capacity l.self-inside.list) × (l.self-inside.seen.items ≡ l.fn.self)

abbrev pub decreases-loop-variable : goal.decreases-loop-variable
decreases-loop-variable l = length l.self-inside.list.items
