use Rattle.std.proofs.Common.{◌∙◌, ◌*◌, min, get_or, ap, refl}
use Rattle.run_lists.proofs.RunLists.{summed_more}
use Rattle.run_lists.proofs.runs.total_of.Goals as goal

pub loop-run-preserved : goal.loop-run-preserved
loop-run-preserved c =
    summed_more c.deref-run-items.result.now c.loop-run.run-index c.loop-run.sum c.saturating_mul.result c.saturating_add-sum.result 18446744073709551615 c.loop-run-test.true (record { number = 0; count = 0 }) _ refl
    c.loop-run.invariant (c.saturating_mul.ensures ∙ ap (λ n. min (n * (get_or c.deref-run-items.result.now c.loop-run.run-index (record { number = 0; count = 0 })).count) 18446744073709551615) c.from.ensures) c.saturating_add-sum.ensures
