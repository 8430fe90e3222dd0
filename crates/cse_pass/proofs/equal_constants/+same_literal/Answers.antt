use Rattle.std.proofs.Common.{arith}
use Rattle.hw_model.specs.KindViews.{literal_of}
use Rattle.cse_pass.proofs.SameParts.{differing}
use Rattle.cse_pass.proofs.equal_constants.+same_literal.Goals as goal

pub are_same_literals-returns-then-ks-ls : goal.are_same_literals-returns-then-ks-ls
are_same_literals-returns-then-ks-ls t c = differing literal_of c.args.ks.now c.args.ls.now (λ e. omega (arith, e))
