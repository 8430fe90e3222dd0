use Rattle.std.proofs.Common.{◌≡◌, ◌≤◌, ◌+◌, length}
use Rattle.text_lines.specs.Lines.{words}
use Rattle.step_file.proofs.rows.word_count.Given as goal

abbrev pub invariant-loop-others : goal.invariant-loop-others
invariant-loop-others l = (l.count + length (words l.rest) ≡ length (words l.line)) × (l.count + length l.rest ≤ length l.line)

abbrev pub decreases-loop-others : goal.decreases-loop-others
decreases-loop-others l = length l.rest
