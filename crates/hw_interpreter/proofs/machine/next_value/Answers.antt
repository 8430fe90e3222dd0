use Rattle.std.proofs.Common.{refl, inl, rules}
use Rattle.hw_interpreter.specs.DesignViews.{ref_of}
use Rattle.hw_interpreter.proofs.machine.next_value.Goals as goal

pub returns-in_err-clock-clause-refuses : goal.returns-in_err-clock-clause-refuses
returns-in_err-clock-clause-refuses c is all = c.in_err-clock.ensures.refuses (search rules) (all (ref_of c.args.register.clock) (inl refl))
