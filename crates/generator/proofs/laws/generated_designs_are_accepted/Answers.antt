use Rattle.generator.proofs.AcceptedDesigns.{accepted_design}
use Rattle.generator.proofs.CanonicalModules.{canonical_design}
use Rattle.generator.proofs.laws.generated_designs_are_accepted.Goals as goal

pub returns-clause-accepted : goal.returns-clause-accepted
returns-clause-accepted c = accepted_design

pub returns-clause-canonical : goal.returns-clause-canonical
returns-clause-canonical c = canonical_design
