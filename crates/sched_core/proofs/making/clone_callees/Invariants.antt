use Rattle.std.proofs.Common.{◌≡◌, map, take}
use Rattle.sched_core.proofs.making.clone_callees.Given as goal

abbrev pub invariant-loop-row : goal.invariant-loop-row
invariant-loop-row l = map (λ row. row.items) l.rows.items ≡ map (λ row. row.items) (take l.row-index l.callees)
