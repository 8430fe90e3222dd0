use Rattle.hw_interpreter.proofs.nets.input_range.Goals as goal

pub returns-in-Some-clause-refuses : goal.returns-in-Some-clause-refuses
returns-in-Some-clause-refuses c = rw (← c.in-Some.ensures, ← c.as_slice.ensures.value) c.port_range.ensures.refuses
