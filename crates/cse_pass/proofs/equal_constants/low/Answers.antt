use Rattle.std.proofs.Common.{◌≡◌, ◌≤◌, ap, ◌∙◌, arith}
use Rattle.bits_core.specs.Word.{number, bits}
use Rattle.cse_pass.proofs.SameNumbers.{whole, part}
use Rattle.cse_pass.proofs.equal_constants.low.Goals as goal

pub returns-then-width-lt128 : goal.returns-then-width-lt128
returns-then-width-lt128 c = λ w is. let same : c.args.width ≡ w = omega (arith, is) in part c.args.width c.args.n (omega arith) ∙ ap (λ k. number (bits k c.args.n)) same

pub returns-else-width-lt128 : goal.returns-else-width-lt128
returns-else-width-lt128 c = λ w is. let wide : 128 ≤ w = omega (arith, is) in whole w c.args.n wide (omega arith)
