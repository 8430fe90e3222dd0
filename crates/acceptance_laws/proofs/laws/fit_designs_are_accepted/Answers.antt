use Rattle.acceptance_laws.proofs.Accepted.{accepted_fit}
use Rattle.acceptance_laws.proofs.NameCounts.{accepted_again}
use Rattle.acceptance_laws.proofs.laws.fit_designs_are_accepted.Goals as goal

pub returns-clause-fit : goal.returns-clause-fit
returns-clause-fit c = accepted_fit

pub returns-clause-accepted : goal.returns-clause-accepted
returns-clause-accepted c = accepted_again
