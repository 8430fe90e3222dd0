use Rattle.std.proofs.Common.{◌≡◌, ◌≤◌, ◌^◌, length}
use Rattle.std.specs.List.{list_all}
use Rattle.text_lines.specs.Lines.{words}
use Rattle.step_file.specs.Literals.{is_literal}
use Rattle.step_file.proofs.rows.are_literals.Given as goal

abbrev pub invariant-loop-word : goal.invariant-loop-word
invariant-loop-word l = (list_all is_literal (words l.rest) ≡ list_all is_literal (words l.line)) × (length l.rest ≤ 2 ^ 26)

abbrev pub decreases-loop-word : goal.decreases-loop-word
decreases-loop-word l = length l.rest
