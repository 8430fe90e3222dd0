use Rattle.std.proofs.Common.{◌≡◌, ◌+◌, ◌++◌, drop}
use Rattle.gates.specs.Clauses.{clauses_from}
use Rattle.gates.specs.Order.{AreInOrder}
use Rattle.gates.proofs.clauses.clauses.Given as goal

abbrev pub invariant-loop-gate : goal.invariant-loop-gate
invariant-loop-gate l = record {
  variable : l.variable ≡ l.circuit.inputs + l.gate-index;
  clauses : l.clauses.items ++ clauses_from l.variable (drop l.gate-index l.circuit.gates) ≡ clauses_from l.circuit.inputs l.circuit.gates;
  order : AreInOrder l.variable (drop l.gate-index l.circuit.gates);
}
