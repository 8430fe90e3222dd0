use Rattle.std.proofs.Common.{◌≡◌, ◌≤◌, ◌^◌, [], length}
use Rattle.std.specs.List.{All}
use Rattle.text_lines.specs.Lines.{words}
use Rattle.step_file.specs.Rows.{words_from}
use Rattle.step_file.specs.Answers.{IsWidth}
use Rattle.step_file.proofs.rows.push_words.Given as goal

abbrev pub invariant-loop-width : goal.invariant-loop-width
invariant-loop-width l = record {
  left : words_from l.row.items l.left (words l.rest) ≡ words_from [] l.widths (words l.line);
  widths : All IsWidth l.left;
  short : length l.rest ≤ 2 ^ 26;
}

abbrev pub decreases-loop-width : goal.decreases-loop-width
decreases-loop-width l = length l.left
