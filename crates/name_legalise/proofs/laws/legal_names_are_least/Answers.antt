use Rattle.name_legalise.proofs.Legals.{legal_stays, legal_least}
use Rattle.name_legalise.proofs.laws.legal_names_are_least.Goals as goal

pub returns-clause-stays : goal.returns-clause-stays
returns-clause-stays c = legal_stays

pub returns-clause-least : goal.returns-clause-least
returns-clause-least c = legal_least
