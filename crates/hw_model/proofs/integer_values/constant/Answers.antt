use Rattle.std.proofs.Common.{◌<◌, ◌^◌, arith, ◌∙◌}
use Rattle.hw_model.proofs.Operands.{bits_below_zero}
use Rattle.hw_model.proofs.integer_values.constant.Goals as goal

pub returns-in-Negative : goal.returns-in-Negative
returns-in-Negative c =
    let fits : c.in-Negative.n < 2 ^ 128 = omega arith in
    rw c.in-Negative.is (c.truncate-in-Negative.ensures ∙ bits_below_zero c.args.width c.in-Negative.n c.requires.most fits)
