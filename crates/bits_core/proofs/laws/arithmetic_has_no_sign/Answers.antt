use Rattle.bits_core.proofs.Integers.{add-signed, sub-signed, mul-signed}
use Rattle.bits_core.proofs.laws.arithmetic_has_no_sign.Goals as goal

pub returns-clause-sum : goal.returns-clause-sum
returns-clause-sum c = add-signed

pub returns-clause-difference : goal.returns-clause-difference
returns-clause-difference c = sub-signed

pub returns-clause-product : goal.returns-clause-product
returns-clause-product c = mul-signed
