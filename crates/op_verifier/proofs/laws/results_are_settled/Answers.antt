use Rattle.std.proofs.Common.{length, refl}
use Rattle.op_checks.proofs.NoOwnCause.{no_own_cause}
use Rattle.op_checks.proofs.Settled.{settles}
use Rattle.op_verifier.proofs.laws.results_are_settled.Goals as goal

pub returns : goal.returns
returns c = λ kind ts rs named xs is_known h. settles kind ts rs (no_own_cause kind ts rs named (length xs) xs is_known refl h)
