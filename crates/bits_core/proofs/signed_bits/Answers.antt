use Rattle.std.proofs.Common.{◌≤◌, ◌^◌, arith, ◌∙◌}
use Rattle.bits_core.proofs.Storage.{bits_wrapped_neg}
use Rattle.bits_core.proofs.signed_bits.Goals as goal

pub returns-then-negative : goal.returns-then-negative
returns-then-negative c =
    let fits : c.args.magnitude ≤ 2 ^ 128 = omega arith in
    rw c.if-negative.true
    (c.truncate.ensures ∙ bits_wrapped_neg c.args.width c.args.magnitude c.requires.most fits)
