use Rattle.std.proofs.Common.{◌≤◌, length, arith}
use Rattle.bits_core.proofs.Order.{top_bit}
use Rattle.bits_core.proofs.Bits.is_negative.Goals as goal

pub returns : goal.returns
returns c =
    let some : 1 ≤ length c.args.self.now = omega arith in
    rw (c.value.ensures.value, c.width.ensures.value) (top_bit c.args.self.now some)
