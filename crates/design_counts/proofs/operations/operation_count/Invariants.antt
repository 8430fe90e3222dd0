use Rattle.std.proofs.Common.{length}
use Rattle.hw_model.specs.Design.{Module}
use Rattle.ir_store.specs.Designs.{design_of}
use Rattle.design_counts.proofs.Totals.{IsCounted}
use Rattle.design_counts.proofs.operations.operation_count.Given as goal

abbrev pub invariant-loop-number : goal.invariant-loop-number
invariant-loop-number l = IsCounted 18446744073709551616 (λ (m : Module). length m.body) (design_of l.design) l.number l.count
