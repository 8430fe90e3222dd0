use Rattle.std.proofs.Common.{◌≡◌, length}
use Rattle.std.specs.Prelude.{Some}
use Rattle.lrat_text.specs.Words.{line_words}
use Rattle.lrat_text.specs.Dimacs.{read_words}
use Rattle.lrat_text.proofs.reading.CnfReading.read_line.Given as goal

abbrev pub invariant-loop-word : goal.invariant-loop-word
invariant-loop-word l = read_words (Some l.self) (line_words l.rest) ≡ read_words (Some l.fn.self) (line_words l.line)

abbrev pub decreases-loop-word : goal.decreases-loop-word
decreases-loop-word l = length l.rest
