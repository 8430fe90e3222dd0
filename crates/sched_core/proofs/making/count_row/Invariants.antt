use Rattle.std.proofs.Common.{◌≡◌, ℕ, ◌+◌, ◌<◌, length, get_or}
use Rattle.std.specs.Prelude.{◌==◌}
use Rattle.sched_core.specs.Sums.{sum_below, one_if}
use Rattle.sched_core.proofs.making.count_row.Given as goal

abbrev pub invariant-loop-callee : goal.invariant-loop-callee
invariant-loop-callee l = (m : ℕ) → m < length l.fn.uses → get_or l.uses m 0 ≡ get_or l.fn.uses m 0 + sum_below l.callee-index (λ i. one_if (get_or l.row i 0 == m))
