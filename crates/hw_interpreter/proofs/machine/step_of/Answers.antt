use Rattle.hw_interpreter.proofs.machine.step_of.Goals as goal

pub returns-clause-outputs : goal.returns-clause-outputs
returns-clause-outputs c = rw (← c.as_slice.ensures, ← c.as_slice-2.ensures) c.step.ensures.outputs

pub returns-clause-content : goal.returns-clause-content
returns-clause-content c = rw (← c.as_slice.ensures, ← c.as_slice-2.ensures) c.step.ensures.content
