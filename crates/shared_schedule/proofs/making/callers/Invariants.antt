use Rattle.std.proofs.Common.{◌≡◌, ℕ, ◌<◌, ◌&&◌, [], map, length}
use Rattle.std.specs.Prelude.{nat_lt, slice_index_or}
use Rattle.sched_core.specs.Sums.{one_if}
use Rattle.shared_schedule.specs.Working.{edge_times, goes_from}
use Rattle.shared_schedule.proofs.making.callers.Given as goal

abbrev pub invariant-loop-c : goal.invariant-loop-c
invariant-loop-c l = record {
  size : length l.rows.items ≡ length l.callees;
  counts : (m a b : ℕ) → m < length l.callees → edge_times (slice_index_or (map (λ row. row.items) l.rows.items) m []) a b ≡ one_if (nat_lt a l.c && goes_from (map (λ row. row.items) l.callees) m a b);
}
