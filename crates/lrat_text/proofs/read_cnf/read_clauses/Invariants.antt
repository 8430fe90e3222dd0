use Rattle.std.proofs.Common.{◌≡◌, ◌+◌, ◌≤◌, ◌^◌, length}
use Rattle.text_lines.specs.Lines.{lines}
use Rattle.lrat_text.specs.Dimacs.{clauses_from}
use Rattle.lrat_text.proofs.read_cnf.read_clauses.Given as goal

abbrev pub invariant-loop-rest : goal.invariant-loop-rest
invariant-loop-rest l = record {
  left : clauses_from l.line l.reading (lines l.rest) ≡ clauses_from l.fn.line l.fn.reading (lines l.source);
  room : l.line + length l.rest ≤ 2 ^ 26 + 1;
}

abbrev pub decreases-loop-rest : goal.decreases-loop-rest
decreases-loop-rest l = length l.rest
