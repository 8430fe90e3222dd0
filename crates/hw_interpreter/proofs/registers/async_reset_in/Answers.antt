use Rattle.std.proofs.Common.{sym}
use Rattle.hw_interpreter.specs.DesignViews.{ref_of}
use Rattle.hw_interpreter.proofs.registers.async_reset_in.Goals as goal

pub returns : goal.returns
returns c = rw (sym c.as_slice.ensures.value) (c.async_reset_of.ensures ref_of)
