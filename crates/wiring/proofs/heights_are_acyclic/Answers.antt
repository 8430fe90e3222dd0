use Rattle.wiring.proofs.Heights.{HasHeights-acyclic, IsAcyclic-heights, heights, heights_alike, height-le}
use Rattle.wiring.proofs.heights_are_acyclic.Goals as goal

pub returns-clause-heights : goal.returns-clause-heights
returns-clause-heights g c = HasHeights-acyclic

pub returns-clause-acyclic : goal.returns-clause-acyclic
returns-clause-acyclic g c = IsAcyclic-heights

pub returns-clause-falling : goal.returns-clause-falling
returns-clause-falling g c = heights

pub returns-clause-unique : goal.returns-clause-unique
returns-clause-unique g c = heights_alike

pub returns-clause-bounded : goal.returns-clause-bounded
returns-clause-bounded g c = height-le
