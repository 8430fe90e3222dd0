use Rattle.std.proofs.Common.{◌≡◌, true, drop}
use Rattle.sched_core.proofs.Falling.{all_below}
use Rattle.schedule_tests.proofs.runs.is_below.Given as goal

abbrev pub invariant-loop-k : goal.invariant-loop-k
invariant-loop-k l = all_below l.bound (drop l.k-index l.row) ≡ true → all_below l.bound l.row ≡ true
