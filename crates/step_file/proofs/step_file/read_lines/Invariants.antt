use Rattle.std.proofs.Common.{◌≡◌, ◌≤◌, ◌+◌, ◌^◌, length}
use Rattle.text_lines.specs.Lines.{lines}
use Rattle.step_file.specs.StepFile.{steps_from}
use Rattle.step_file.proofs.step_file.read_lines.Given as goal

abbrev pub invariant-loop-rest : goal.invariant-loop-rest
invariant-loop-rest l = record {
  left : steps_from l.line l.registers l.inputs (lines l.rest) ≡ steps_from 1 l.registers l.inputs (lines l.text);
  room : l.line + length l.rest ≤ 2 ^ 26 + 1;
  short : length l.rest ≤ 2 ^ 26;
}

abbrev pub decreases-loop-rest : goal.decreases-loop-rest
decreases-loop-rest l = length l.rest
