use Rattle.std.proofs.Common.{◌-◌, length}
use Rattle.ir_store.specs.Bodies.{ids_of}
use Rattle.cse_pass.proofs.Sweeping.{Sweeping}
use Rattle.cse_pass.proofs.merges.merge_sweep.Given as goal

abbrev pub invariant-loop-at : goal.invariant-loop-at
invariant-loop-at l = Sweeping l.fn.body l.body l.groups l.position l.at l.merged

abbrev pub decreases-loop-at : goal.decreases-loop-at
decreases-loop-at l = length (ids_of l.body) - l.position
