use Rattle.std.proofs.Common.{◌≡◌, ◌+◌, ◌++◌, drop, map}
use Rattle.aiger_circuits.specs.CircuitTrees.{latches_from}
use Rattle.aiger_circuits.specs.CircuitTexts.{latch_line, ended_lines}
use Rattle.aiger_circuits.proofs.write.push_latches.Given as goal

abbrev pub invariant-loop-i : goal.invariant-loop-i
invariant-loop-i l = l.text ++ ended_lines (map latch_line (latches_from (l.first + l.i) (drop l.i l.nexts))) ≡ l.fn.text ++ ended_lines (map latch_line (latches_from l.first l.nexts))
