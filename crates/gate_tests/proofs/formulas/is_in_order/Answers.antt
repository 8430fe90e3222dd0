use Rattle.std.proofs.Common.{arith}
use Rattle.gate_tests.proofs.InOrder.{order_step, order_end}
use Rattle.gate_tests.proofs.formulas.is_in_order.Goals as goal

pub loop-gate-preserved : goal.loop-gate-preserved
loop-gate-preserved c = record {
  before = omega (arith, c.loop-gate.invariant.before);
  order = λ rest. c.loop-gate.invariant.order (order_step c.loop-gate.before c.loop-gate.gate-index c.args.gates.now _ (omega arith) (c.is_within.ensures c.if-not-is_within.false) rest);
}

pub returns : goal.returns
returns c = λ t. c.loop-gate.invariant.order (order_end c.loop-gate.before c.loop-gate.gate-index c.args.gates.now (omega arith))
