use Rattle.acceptance_laws.proofs.Causes.{cause_told, fewer_causes}
use Rattle.acceptance_laws.proofs.laws.causes_are_asked.Goals as goal

pub returns-clause-told : goal.returns-clause-told
returns-clause-told c = cause_told

pub returns-clause-fewer : goal.returns-clause-fewer
returns-clause-fewer c = fewer_causes
