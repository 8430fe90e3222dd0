use Rattle.std.proofs.Common.{◌≡◌, true, drop, map}
use Rattle.sched_core.proofs.Falling.{falls}
use Rattle.schedule_tests.proofs.runs.is_ordered.Given as goal

abbrev pub invariant-loop-m : goal.invariant-loop-m
invariant-loop-m l = falls l.m (map (λ row. row.items) (drop l.m l.callees)) ≡ true → falls 0 (map (λ row. row.items) l.callees) ≡ true
