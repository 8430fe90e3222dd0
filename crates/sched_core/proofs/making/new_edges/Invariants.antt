use Rattle.std.proofs.Common.{◌≡◌, map, take, length}
use Rattle.std.specs.Prelude.{replicate}
use Rattle.sched_core.specs.State.{new_edge}
use Rattle.sched_core.proofs.making.new_edges.Given as goal

abbrev pub invariant-loop-row : goal.invariant-loop-row
invariant-loop-row l = map (λ row. row.items) l.rows.items ≡ map (λ row. replicate (length row.items) new_edge) (take l.row-index l.callees)
