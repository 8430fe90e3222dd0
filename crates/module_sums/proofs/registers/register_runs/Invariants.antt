use Rattle.ir_store.specs.Designs.{design_of}
use Rattle.module_sums.proofs.LeafRuns.{IsFilled}
use Rattle.module_sums.proofs.registers.register_runs.Given as goal

abbrev pub invariant-loop-number : goal.invariant-loop-number
invariant-loop-number l = IsFilled (design_of l.design) l.table.items l.below l.number-index
