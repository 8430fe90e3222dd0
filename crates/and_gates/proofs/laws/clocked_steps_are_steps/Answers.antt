use Rattle.and_gates.proofs.StepBits.{clocked_order, clocked_bits}
use Rattle.and_gates.proofs.MachineSteps.{bits_of_step, step_exists}
use Rattle.and_gates.proofs.laws.clocked_steps_are_steps.Goals as goal

pub returns-clause-order : goal.returns-clause-order
returns-clause-order c = clocked_order

pub returns-clause-bits : goal.returns-clause-bits
returns-clause-bits c = clocked_bits

pub returns-clause-steps : goal.returns-clause-steps
returns-clause-steps c = bits_of_step

pub returns-clause-step : goal.returns-clause-step
returns-clause-step c = step_exists
