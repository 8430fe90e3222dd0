use Rattle.std.proofs.Common.{◌≡◌, ℕ, ◌<◌, length, get_or}
use Rattle.sched_core.proofs.making.worker_numbers.Given as goal

abbrev pub invariant-loop-w : goal.invariant-loop-w
invariant-loop-w l = record {
  size : length l.numbers.items ≡ l.w;
  numbers : (k : ℕ) → k < l.w → get_or l.numbers.items k 64 ≡ k;
}
