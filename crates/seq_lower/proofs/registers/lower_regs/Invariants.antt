use Rattle.ir_store.specs.Bodies.{ids_of}
use Rattle.seq_lower.proofs.Sweeping.{IsOnWay, left}
use Rattle.seq_lower.proofs.registers.lower_regs.Given as goal

abbrev pub invariant-loop-at : goal.invariant-loop-at
invariant-loop-at l = IsOnWay l.fn.body l.body l.at

abbrev pub decreases-loop-at : goal.decreases-loop-at
decreases-loop-at l = left (ids_of l.body) l.at
