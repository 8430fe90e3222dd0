use Rattle.std.proofs.Common.{◌≡◌, length}
use Rattle.lrat_text.specs.Numbers.{number, number_from}
use Rattle.lrat_text.proofs.word.number.Given as goal

abbrev pub invariant-loop-digit : goal.invariant-loop-digit
invariant-loop-digit l = number_from l.value l.rest ≡ number l.word

abbrev pub decreases-loop-digit : goal.decreases-loop-digit
decreases-loop-digit l = length l.rest
