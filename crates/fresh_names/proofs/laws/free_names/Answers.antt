use Rattle.fresh_names.proofs.Free.{name_free, name_stays}
use Rattle.fresh_names.proofs.Giving.{name_least}
use Rattle.fresh_names.proofs.laws.free_names.Goals as goal

pub returns-clause-free : goal.returns-clause-free
returns-clause-free c = name_free

pub returns-clause-stays : goal.returns-clause-stays
returns-clause-stays c = name_stays

pub returns-clause-least : goal.returns-clause-least
returns-clause-least c = name_least
