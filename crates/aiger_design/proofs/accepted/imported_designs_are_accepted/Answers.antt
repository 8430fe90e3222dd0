use Rattle.aiger_design.proofs.AcceptedDesign.{imported_accepted}
use Rattle.aiger_design.proofs.CanonicalDesign.{imported_canonical}
use Rattle.aiger_design.proofs.accepted.imported_designs_are_accepted.Goals as goal

pub returns-clause-accepted : goal.returns-clause-accepted
returns-clause-accepted c = imported_accepted

pub returns-clause-canonical : goal.returns-clause-canonical
returns-clause-canonical c = imported_canonical
