use Rattle.net_gates.proofs.MiterLaw.{difference_from, satisfies_difference}
use Rattle.net_gates.proofs.laws.miters_are_differences.Goals as goal

pub returns : goal.returns
returns c = λ inputs content a b fa fb same m. (difference_from a b inputs content fa fb same m, satisfies_difference a b inputs content fa fb same m)
