use Rattle.std.proofs.Common.{◌≡◌, map, take, length}
use Rattle.sched_core.proofs.making.lengths.Given as goal

abbrev pub invariant-loop-row : goal.invariant-loop-row
invariant-loop-row l = l.counts.items ≡ map (λ row. length row.items) (take l.row-index l.callees)
