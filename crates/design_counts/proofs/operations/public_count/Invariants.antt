use Rattle.ir_store.specs.Designs.{design_of}
use Rattle.design_counts.specs.Counts.{one_if_public}
use Rattle.design_counts.proofs.Totals.{IsCounted}
use Rattle.design_counts.proofs.operations.public_count.Given as goal

abbrev pub invariant-loop-number : goal.invariant-loop-number
invariant-loop-number l = IsCounted 1 one_if_public (design_of l.design) l.number l.count
