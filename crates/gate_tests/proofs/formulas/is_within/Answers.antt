use Rattle.std.proofs.Common.{arith}
use Rattle.gate_tests.proofs.formulas.is_within.Goals as goal

pub returns : goal.returns
returns c = λ t. record { first = (omega arith, omega arith); second = (omega arith, omega arith); ordered = omega arith }
