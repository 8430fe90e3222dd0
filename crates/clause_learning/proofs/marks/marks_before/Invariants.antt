use Rattle.std.proofs.Common.{◌≤◌, length}
use Rattle.clause_learning.proofs.marks.marks_before.Given as goal

abbrev pub invariant-loop-count : goal.invariant-loop-count
invariant-loop-count l = l.count ≤ length l.marks

abbrev pub decreases-loop-count : goal.decreases-loop-count
decreases-loop-count l = l.count
