use Rattle.cse_pass.proofs.Trimming.{TrimSweeping}
use Rattle.cse_pass.proofs.trims.trim_sweep.Given as goal

abbrev pub invariant-loop-left : goal.invariant-loop-left
invariant-loop-left l = TrimSweeping l.fn.body l.body l.left l.erased

abbrev pub decreases-loop-left : goal.decreases-loop-left
decreases-loop-left l = l.left
