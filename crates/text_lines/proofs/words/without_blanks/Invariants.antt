use Rattle.std.proofs.Common.{◌≡◌, ◌≤◌, length}
use Rattle.text_lines.specs.Lines.{words}
use Rattle.text_lines.proofs.words.without_blanks.Given as goal

abbrev pub invariant-loop-byte : goal.invariant-loop-byte
invariant-loop-byte l = (words l.line ≡ words l.rest) × (length l.rest ≤ length l.line)

abbrev pub decreases-loop-byte : goal.decreases-loop-byte
decreases-loop-byte l = length l.rest
