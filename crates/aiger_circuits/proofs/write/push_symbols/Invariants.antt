use Rattle.std.proofs.Common.{◌≡◌, ◌++◌, drop}
use Rattle.aiger_circuits.specs.CircuitTexts.{symbol_lines, ended_lines}
use Rattle.aiger_circuits.proofs.write.push_symbols.Given as goal

abbrev pub invariant-loop-i : goal.invariant-loop-i
invariant-loop-i l = l.text ++ ended_lines (symbol_lines l.letter l.i (drop l.i l.names)) ≡ l.fn.text ++ ended_lines (symbol_lines l.letter 0 l.names)
