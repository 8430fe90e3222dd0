use Rattle.std.proofs.Common.{sym, ap, ◌∙◌}
use Rattle.bits_core.specs.Word.{number}
use Rattle.bits_core.proofs.Numbers.{number-bits-below, length-bits}
use Rattle.bits_core.proofs.Bits.value.Goals as goal

pub returns-clause-value : goal.returns-clause-value
returns-clause-value c = sym (ap number (sym c.self.view_is) ∙ number-bits-below _ _ c.self.invariant.2)

pub returns-clause-below : goal.returns-clause-below
returns-clause-below c = rw (← c.self.view_is, length-bits) c.self.invariant.2
