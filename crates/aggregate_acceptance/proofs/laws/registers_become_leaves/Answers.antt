use Rattle.aggregate_acceptance.proofs.LoweredShapes.{joined_types, joined_calls}
use Rattle.aggregate_acceptance.proofs.laws.registers_become_leaves.Goals as goal

pub returns-clause-registers : goal.returns-clause-registers
returns-clause-registers c = joined_types

pub returns-clause-instances : goal.returns-clause-instances
returns-clause-instances c = joined_calls
