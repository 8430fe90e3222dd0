use Rattle.bits_core.proofs.Numbers.{length-bits, number-bits, number_below, bits-number}
use Rattle.bits_core.proofs.laws.words_are_numbers.Goals as goal

pub returns-clause-width : goal.returns-clause-width
returns-clause-width c = length-bits

pub returns-clause-number : goal.returns-clause-number
returns-clause-number c = number-bits

pub returns-clause-below : goal.returns-clause-below
returns-clause-below c = number_below

pub returns-clause-word : goal.returns-clause-word
returns-clause-word c = bits-number
