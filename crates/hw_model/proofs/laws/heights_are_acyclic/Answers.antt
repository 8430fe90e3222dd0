use Rattle.hw_model.proofs.Finite.{heights_from_no_cycle, no_cycle_from_heights}
use Rattle.hw_model.proofs.laws.heights_are_acyclic.Goals as goal

pub returns-clause-heights : goal.returns-clause-heights
returns-clause-heights c = heights_from_no_cycle

pub returns-clause-acyclic : goal.returns-clause-acyclic
returns-clause-acyclic c = no_cycle_from_heights
