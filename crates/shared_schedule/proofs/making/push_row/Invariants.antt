use Rattle.std.proofs.Common.{◌≡◌, ℕ, ◌+◌, ◌&&◌, [], map, length, slice_index}
use Rattle.std.specs.Prelude.{◌==◌, nat_lt, slice_index_or}
use Rattle.sched_core.specs.Sums.{one_if}
use Rattle.shared_schedule.specs.Working.{edge_times}
use Rattle.shared_schedule.proofs.making.push_row.Given as goal

abbrev pub invariant-loop-i : goal.invariant-loop-i
invariant-loop-i l = record {
  size : length l.rows.items ≡ length l.fn.rows.items;
  counts : (m a b : ℕ) → edge_times (slice_index_or (map (λ row. row.items) l.rows.items) m []) a b
      ≡ edge_times (slice_index_or (map (λ row. row.items) l.fn.rows.items) m []) a b + one_if ((a == l.c) && (nat_lt b l.i && (slice_index l.row b == m)));
}
