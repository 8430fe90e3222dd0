use Rattle.std.proofs.Common.{◌≤◌, ◌<◌, nat_eq, ap₂, ◌∙◌, arith}
use Rattle.cse_pass.proofs.SameNumbers.{narrow_complement, wide_complement, above}
use Rattle.cse_pass.proofs.equal_constants.is_complement.Goals as goal

pub returns-then-width-le128 : goal.returns-then-width-le128
returns-then-width-le128 c = λ w is.
    let narrow : w ≤ 128 = omega (arith, is) in
    ap₂ nat_eq (c.low.ensures w is)
    (c.low-then-width-le128.ensures w is ∙ narrow_complement w c.args.n _ narrow (omega arith))

pub returns-else-width-le128 : goal.returns-else-width-le128
returns-else-width-le128 c = λ w is.
    let wide : 128 < w = omega (arith, is) in
    above c.args.width 128 c.if-width-le128.false ∙ wide_complement w c.args.m c.args.n wide (omega arith) (omega arith)
