use Rattle.std.proofs.Common.{◌≡◌, sym}
use Rattle.bits_core.specs.Word.{sign}
use Rattle.bits_core.proofs.Order.{order-negative, order-natural, order_same_sign}
use Rattle.bits_core.proofs.Bits.signed_cmp.Goals as goal
use Rattle.bits_core.proofs.Bits.signed_cmp.Goals.{in_default-via-then-is_negative+then-is_negative-2, in_default-via-else-is_negative+else-this}

pub returns-in-true-false : goal.returns-in-true-false
returns-in-true-false c =
    sym (order-negative c.args.self.now c.args.b.now (sym c.in-true-false.ensures) (sym c.in-true-false.ensures'))

pub returns-in-false-true : goal.returns-in-false-true
returns-in-false-true c =
    sym (order-natural c.args.self.now c.args.b.now (sym c.in-false-true.ensures) (sym c.in-false-true.ensures'))

pub returns-in_default : goal.returns-in_default
returns-in_default c =
    let same : sign c.args.self.now ≡ sign c.args.b.now =
    elim c.in_default.branch [ in_default-via-then-is_negative+then-is_negative-2 w ↦ (cc) | in_default-via-else-is_negative+else-this w ↦ (cc) ] in
    cc (order_same_sign c.args.self.now c.args.b.now c.requires same)
