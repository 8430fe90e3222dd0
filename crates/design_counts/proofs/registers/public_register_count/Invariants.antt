use Rattle.ir_store.specs.Designs.{design_of}
use Rattle.design_counts.specs.Counts.{public_registers}
use Rattle.design_counts.proofs.Totals.{IsCounted}
use Rattle.design_counts.proofs.registers.public_register_count.Given as goal

abbrev pub invariant-loop-number : goal.invariant-loop-number
invariant-loop-number l = IsCounted 18446744073709551616 public_registers (design_of l.design) l.number l.count
