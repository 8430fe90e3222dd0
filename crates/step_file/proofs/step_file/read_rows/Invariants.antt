use Rattle.std.proofs.Common.{◌≡◌, ◌≤◌, ◌+◌, ◌^◌, [], length}
use Rattle.text_lines.specs.Lines.{lines}
use Rattle.step_file.specs.StepFile.{rows_from}
use Rattle.step_file.specs.Answers.{rows_in}
use Rattle.step_file.proofs.step_file.read_rows.Given as goal

abbrev pub invariant-loop-rest : goal.invariant-loop-rest
invariant-loop-rest l = record {
  left : rows_from l.line l.widths (rows_in l.steps.items) (lines l.rest) ≡ rows_from l.fn.line l.widths [] (lines l.text);
  room : l.line + length l.rest ≤ 2 ^ 26 + 1;
  short : length l.rest ≤ 2 ^ 26;
}

abbrev pub decreases-loop-rest : goal.decreases-loop-rest
decreases-loop-rest l = length l.rest
