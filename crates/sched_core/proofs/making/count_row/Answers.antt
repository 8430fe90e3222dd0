use Rattle.std.proofs.Common.{ℕ, ◌≤◌, get_or, arith}
use Rattle.std.specs.Prelude.{◌==◌}
use Rattle.sched_core.specs.Sums.{sum_below, one_if}
use Rattle.sched_core.proofs.SumLemmas.{sum_below-le, one_if-le}
use Rattle.sched_core.proofs.making.count_row.Goals as goal

pub overflow_add-uses : goal.overflow_add-uses
overflow_add-uses c =
    let row = c.args.row.now in
    let j = c.loop-callee.callee-index in
    let k : ℕ = get_or row j 0 in
    let bound : sum_below j (λ i. one_if (get_or row i 0 == k)) ≤ j = sum_below-le j (λ i. one_if (get_or row i 0 == k)) (λ i. one_if-le (get_or row i 0 == k)) in
    omega (arith, c.loop-callee.invariant k (c.requires.within j (omega arith)), c.requires.room k)
