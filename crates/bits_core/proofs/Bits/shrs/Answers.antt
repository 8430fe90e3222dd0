use Rattle.std.proofs.Common.{sym, ◌∙◌}
use Rattle.bits_core.specs.Word.{number}
use Rattle.bits_core.proofs.Shifts.{shift_right_signed-negative}
use Rattle.bits_core.proofs.Bits.shrs.Goals as goal

pub returns-then-is_negative : goal.returns-then-is_negative
returns-then-is_negative c =
    cc (shift_right_signed-negative c.args.self.now (number c.args.b.now) (sym c.is_negative.ensures ∙ c.if-is_negative.true))
