use Rattle.hw_model.proofs.Finite.{settles_with_heights, settles_without_cycle}
use Rattle.hw_model.proofs.laws.one_map_settles.Goals as goal

pub returns-clause-heights : goal.returns-clause-heights
returns-clause-heights c = settles_with_heights

pub returns-clause-acyclic : goal.returns-clause-acyclic
returns-clause-acyclic c = settles_without_cycle
