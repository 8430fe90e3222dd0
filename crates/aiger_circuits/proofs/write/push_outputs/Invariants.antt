use Rattle.std.proofs.Common.{◌≡◌, ◌++◌, drop, map}
use Rattle.aiger_circuits.specs.CircuitTrees.{signal_literal}
use Rattle.aiger_circuits.specs.CircuitTexts.{literal_line, ended_lines}
use Rattle.aiger_circuits.proofs.write.push_outputs.Given as goal

abbrev pub invariant-loop-output : goal.invariant-loop-output
invariant-loop-output l = l.text ++ ended_lines (map literal_line (map signal_literal (drop l.output-index l.outputs))) ≡ l.fn.text ++ ended_lines (map literal_line (map signal_literal l.outputs))
