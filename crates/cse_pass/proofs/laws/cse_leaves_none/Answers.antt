use Rattle.cse_pass.proofs.Leading.{cse_leads}
use Rattle.cse_pass.proofs.NoEqual.{cse_none_equal}
use Rattle.cse_pass.proofs.laws.cse_leaves_none.Goals as goal

pub returns-clause-leads : goal.returns-clause-leads
returns-clause-leads c = cse_leads

pub returns-clause-equal : goal.returns-clause-equal
returns-clause-equal c = cse_none_equal

pub returns-clause-unused : goal.returns-clause-unused
returns-clause-unused c = λ os os' cse. cse.trimmed.none_left
