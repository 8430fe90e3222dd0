use Rattle.aiger_circuits.proofs.CircuitDrivers.{circuit_acyclic}
use Rattle.aiger_circuits.proofs.CircuitSteps.{circuit_steps}
use Rattle.aiger_circuits.proofs.laws.circuit_trees_step.Goals as goal

pub returns-clause-acyclic : goal.returns-clause-acyclic
returns-clause-acyclic c = circuit_acyclic

pub returns-clause-step : goal.returns-clause-step
returns-clause-step c = λ outputs nexts gates x q size order outputs_within nexts_within given after. circuit_steps outputs nexts gates x q size order outputs_within nexts_within given after
