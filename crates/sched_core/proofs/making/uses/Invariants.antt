use Rattle.std.proofs.Common.{◌≡◌, ℕ, ◌<◌, length, get_or, map}
use Rattle.sched_core.specs.Sums.{sum_below}
use Rattle.sched_core.specs.State.{callees_of}
use Rattle.sched_core.specs.Counts.{times_in}
use Rattle.sched_core.proofs.making.uses.Given as goal

abbrev pub invariant-loop-row : goal.invariant-loop-row
invariant-loop-row l = record {
  size : length l.uses.items ≡ length l.callees;
  counts : (m : ℕ) → m < length l.callees → get_or l.uses.items m 0 ≡ sum_below l.row-index (λ c. times_in (callees_of (map (λ row. row.items) l.callees) c) m);
}
