use Rattle.seq_lower.proofs.Plain.{lowered_leads, lowered_has_none}
use Rattle.seq_lower.proofs.laws.lowering_leaves_none.Goals as goal

pub returns-clause-leads : goal.returns-clause-leads
returns-clause-leads c = lowered_leads

pub returns-clause-none : goal.returns-clause-none
returns-clause-none c = lowered_has_none
