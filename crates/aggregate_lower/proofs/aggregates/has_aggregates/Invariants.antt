use Rattle.std.proofs.Common.{◌≡◌, drop}
use Rattle.ir_store.specs.Designs.{design_of}
use Rattle.aggregate_laws.specs.Scalars.{has_aggregates}
use Rattle.aggregate_lower.proofs.aggregates.has_aggregates.Given as goal

abbrev pub invariant-loop-number : goal.invariant-loop-number
invariant-loop-number l = has_aggregates (drop l.number (design_of l.design)) ≡ has_aggregates (design_of l.design)
