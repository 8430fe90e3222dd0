use Rattle.std.proofs.Common.{◌≡◌, [], map, replicate}
use Rattle.shared_schedule.proofs.making.no_callers.Given as goal

abbrev pub invariant-loop-module : goal.invariant-loop-module
invariant-loop-module l = map (λ row. row.items) l.rows.items ≡ replicate l._module []
