use Rattle.std.proofs.Common.{◌∙◌, arith}
use Rattle.cse_pass.proofs.SameNumbers.{low_of_number, low_of_complement}
use Rattle.cse_pass.proofs.equal_constants.low_number.Goals as goal

pub returns-in-NonNegative : goal.returns-in-NonNegative
returns-in-NonNegative c = λ w is. rw c.in-NonNegative.is (c.low.ensures w is ∙ low_of_number w c.in-NonNegative.n (omega arith))

pub returns-in-Negative : goal.returns-in-Negative
returns-in-Negative c = λ w is. rw c.in-Negative.is (c.low-in-Negative.ensures w is ∙ low_of_complement w c.in-Negative.n _ (omega arith))
