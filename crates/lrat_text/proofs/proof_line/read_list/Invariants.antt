use Rattle.std.proofs.Common.{◌≡◌, length}
use Rattle.lrat_text.specs.Words.{line_words}
use Rattle.lrat_text.specs.ProofLine.{until_end}
use Rattle.lrat_text.proofs.Walking.{prefixed}
use Rattle.lrat_text.proofs.proof_line.read_list.Given as goal

abbrev pub invariant-loop-word : goal.invariant-loop-word
invariant-loop-word l = until_end (line_words l.line) ≡ prefixed l.numbers.items (until_end (line_words l.rest))

abbrev pub decreases-loop-word : goal.decreases-loop-word
decreases-loop-word l = length l.rest
