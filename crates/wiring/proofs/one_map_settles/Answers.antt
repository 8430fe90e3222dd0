use Rattle.wiring.proofs.Settled.{settles_once}
use Rattle.wiring.proofs.Heights.{settles}
use Rattle.wiring.proofs.one_map_settles.Goals as goal

pub returns-clause-acyclic : goal.returns-clause-acyclic
returns-clause-acyclic g c = settles_once

pub returns-clause-heights : goal.returns-clause-heights
returns-clause-heights g c = settles
