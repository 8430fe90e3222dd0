use Rattle.std.proofs.Common.{◌≡◌, ◌+◌, drop}
use Rattle.gates.specs.Order.{AreInOrder}
use Rattle.gate_tests.proofs.formulas.is_in_order.Given as goal

abbrev pub invariant-loop-gate : goal.invariant-loop-gate
invariant-loop-gate l = record {
  before : l.before ≡ l.inputs + l.gate-index;
  order : AreInOrder l.before (drop l.gate-index l.gates) → AreInOrder l.inputs l.gates;
}
