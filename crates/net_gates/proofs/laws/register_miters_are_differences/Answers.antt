use Rattle.net_gates.proofs.StepLaw.{step_difference_from, satisfies_step_difference}
use Rattle.net_gates.proofs.laws.register_miters_are_differences.Goals as goal

pub returns : goal.returns
returns c = λ inputs content a b fa fb same m. (step_difference_from a b inputs content fa fb same m, satisfies_step_difference a b inputs content fa fb same m)
