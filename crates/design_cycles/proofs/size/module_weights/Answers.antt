use Rattle.std.proofs.Common.{arith}
use Rattle.ir_store.specs.Designs.{modules_of}
use Rattle.design_cycles.proofs.Sizing.{node_within, step_weighs, all_weigh}
use Rattle.design_cycles.proofs.size.module_weights.Goals as goal

pub module_weight-requires : goal.module_weight-requires
module_weight-requires c = node_within (modules_of c.args.design.now) 18446744073709551615 c.args.order.now c.loop-number.number-index c.requires.whole c.loop-number-test.true

pub index_mut-requires : goal.index_mut-requires
index_mut-requires c =
    omega (arith, node_within (modules_of c.args.design.now) 18446744073709551615 c.args.order.now c.loop-number.number-index c.requires.whole c.loop-number-test.true, c.loop-number.invariant.0, c.loop-number.weights.ok.0)

pub loop-number-preserved : goal.loop-number-preserved
loop-number-preserved c =
    step_weighs (modules_of c.args.design.now) 18446744073709551615 c.requires.distinct c.requires.finite c.loop-number.weights.items c.as_slice.result.now c.args.order.now c.loop-number.number-index
    c.in_ok-weight.weight c.requires.whole c.loop-number-test.true c.as_slice.ensures.value c.loop-number.invariant c.in_ok-weight.ensures

pub returns-clause-each : goal.returns-clause-each
returns-clause-each c =
    all_weigh (modules_of c.args.design.now) 18446744073709551615 c.loop-number.weights.items c.args.order.now c.loop-number.number-index c.requires.whole c.loop-number-test.false c.loop-number.invariant.1
