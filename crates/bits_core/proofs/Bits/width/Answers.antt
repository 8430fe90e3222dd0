use Rattle.std.proofs.Common.{sym, ap, ◌∙◌, length}
use Rattle.bits_core.proofs.Numbers.{length-bits}
use Rattle.bits_core.proofs.Bits.width.Goals as goal

pub returns-clause-value : goal.returns-clause-value
returns-clause-value c = sym (ap length (sym c.self.view_is) ∙ length-bits _ _)
