use Rattle.std.proofs.Common.{◌≡◌, ◌+◌, ◌≤◌, ◌^◌, length}
use Rattle.text_lines.specs.Lines.{lines}
use Rattle.lrat_text.specs.Dimacs.{formula_from, dimacs}
use Rattle.lrat_text.proofs.read_cnf.read_formula.Given as goal

abbrev pub invariant-loop-rest : goal.invariant-loop-rest
invariant-loop-rest l = record {
  left : formula_from l.line (lines l.rest) ≡ dimacs l.source;
  room : l.line + length l.rest ≤ 2 ^ 26 + 1;
}

abbrev pub decreases-loop-rest : goal.decreases-loop-rest
decreases-loop-rest l = length l.rest
