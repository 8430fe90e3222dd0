use Rattle.std.proofs.Common.{◌≡◌, ◌++◌, map, drop}
use Rattle.sched_core.specs.State.{leaves, leaves_from}
use Rattle.sched_core.proofs.making.leaf_modules.Given as goal

abbrev pub invariant-loop-m : goal.invariant-loop-m
invariant-loop-m l = l.modules.items ++ leaves_from l.m (drop l.m (map (λ row. row.items) l.callees)) ≡ leaves (map (λ row. row.items) l.callees)
