use Rattle.bits_core.proofs.Arithmetic.{quotient-rest}
use Rattle.bits_core.proofs.Integers.{signed_quotient-rest}
use Rattle.bits_core.proofs.laws.quotients_have_rests.Goals as goal

pub returns-clause-unsigned : goal.returns-clause-unsigned
returns-clause-unsigned c = quotient-rest

pub returns-clause-signed : goal.returns-clause-signed
returns-clause-signed c = signed_quotient-rest
