use Rattle.std.proofs.Common.{◌≡◌, ◌++◌, map, take, drop}
use Rattle.sched_core.specs.Table.{heir_after}
use Rattle.sched_core.proofs.sched.pass_on.Given as goal

abbrev pub invariant-loop-i : goal.invariant-loop-i
invariant-loop-i l = l.heirs ≡ map (heir_after l.kept l.gone) (take l.i l.fn.heirs) ++ drop l.i l.fn.heirs
