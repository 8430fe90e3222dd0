use Rattle.ir_store.specs.Designs.{design_of, modules_of, module_of}
use Rattle.aggregate_laws.specs.Scalars.{has_aggregates}
use Rattle.aggregate_lower.proofs.DesignValues.{module_with, module_without}
use Rattle.aggregate_lower.proofs.aggregates.has_aggregates.Goals as goal

pub returns-then-has_aggregate_value : goal.returns-then-has_aggregate_value
returns-then-has_aggregate_value c =
    module_with (modules_of c.args.design.now) c.loop-number.number (module_of c.module.result.now) c.has_aggregate_value.result (has_aggregates (design_of c.args.design.now))
    c.module.ensures c.has_aggregate_value.ensures c.if-has_aggregate_value.true c.loop-number.invariant

pub loop-number-preserved : goal.loop-number-preserved
loop-number-preserved c =
    module_without (modules_of c.args.design.now) c.loop-number.number (module_of c.module.result.now) c.has_aggregate_value.result (has_aggregates (design_of c.args.design.now))
    c.module.ensures c.has_aggregate_value.ensures c.if-has_aggregate_value.false c.loop-number.invariant
