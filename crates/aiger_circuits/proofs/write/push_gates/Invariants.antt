use Rattle.std.proofs.Common.{◌≡◌, ◌+◌, ◌++◌, drop, map}
use Rattle.aiger_circuits.specs.CircuitTrees.{gates_from}
use Rattle.aiger_circuits.specs.CircuitTexts.{gate_line, ended_lines}
use Rattle.aiger_circuits.proofs.write.push_gates.Given as goal

abbrev pub invariant-loop-i : goal.invariant-loop-i
invariant-loop-i l = l.text ++ ended_lines (map gate_line (gates_from (l.first + l.i) (drop l.i l.gates))) ≡ l.fn.text ++ ended_lines (map gate_line (gates_from l.first l.gates))
