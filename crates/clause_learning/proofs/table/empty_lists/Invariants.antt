use Rattle.std.proofs.Common.{◌≡◌, replicate, []}
use Rattle.clause_learning.proofs.table.empty_lists.Given as goal

abbrev pub invariant-loop-slot : goal.invariant-loop-slot
invariant-loop-slot l = l.lists.items ≡ replicate l._slot []
