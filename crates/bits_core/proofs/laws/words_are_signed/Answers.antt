use Rattle.bits_core.proofs.Complement.{signed-bits_of_ℤ, bits_of-signed}
use Rattle.bits_core.proofs.laws.words_are_signed.Goals as goal

pub returns-clause-integer : goal.returns-clause-integer
returns-clause-integer c = signed-bits_of_ℤ

pub returns-clause-word : goal.returns-clause-word
returns-clause-word c = bits_of-signed
