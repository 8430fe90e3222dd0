use Rattle.canonicalise.specs.Canonical.{table}
use Rattle.canonicalise.proofs.Sweeping.{out_leads, none_left}
use Rattle.canonicalise.proofs.laws.canonical_bodies_are_folded.Goals as goal

pub returns-clause-leads : goal.returns-clause-leads
returns-clause-leads c = out_leads table

pub returns-clause-folded : goal.returns-clause-folded
returns-clause-folded c = none_left table
