use Rattle.std.proofs.Common.{nat_eq, ap₂, ◌∙◌}
use Rattle.cse_pass.proofs.SameNumbers.{same_negative}
use Rattle.cse_pass.proofs.equal_constants.is_same_number.Goals as goal

pub returns-in-Negative-Negative : goal.returns-in-Negative-Negative
returns-in-Negative-Negative c = λ w is.
    rw (c.in-Negative-Negative.is-0, c.in-Negative-Negative.is-1)
    (ap₂ nat_eq (c.low-in-Negative-Negative.ensures w is) (c.low-in-Negative-Negative-2.ensures w is) ∙ same_negative w c.in-Negative-Negative.m c.in-Negative-Negative.n)
