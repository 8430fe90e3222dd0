use Rattle.std.proofs.Common.{sym}
use Rattle.hw_interpreter.specs.DesignViews.{ref_of}
use Rattle.hw_interpreter.proofs.registers.register_in.Goals as goal

pub returns : goal.returns
returns c = rw (sym c.as_slice.ensures.value) (c.register_of.ensures ref_of)
