use Rattle.std.proofs.Common.{◌≡◌, ◌+◌, ◌-◌, ◌++◌, map}
use Rattle.aiger_circuits.specs.CircuitTrees.{literals_from}
use Rattle.aiger_circuits.specs.CircuitTexts.{literal_line, ended_lines}
use Rattle.aiger_circuits.proofs.write.push_inputs.Given as goal

abbrev pub invariant-loop-number : goal.invariant-loop-number
invariant-loop-number l = l.text ++ ended_lines (map literal_line (literals_from (1 + l.number) (l.count - l.number))) ≡ l.fn.text ++ ended_lines (map literal_line (literals_from 1 l.count))
