use Rattle.std.proofs.Common.{arith}
use Rattle.hw_model.specs.KindViews.{literal_of}
use Rattle.hw_model.proofs.SameLiterals.{differing}
use Rattle.hw_model.proofs.same_kinds.+same_literal.Goals as goal

pub same_lists-returns-then-ks-ls : goal.same_lists-returns-then-ks-ls
same_lists-returns-then-ks-ls t c = differing literal_of c.args.ks.now c.args.ls.now (λ e. omega (arith, e))
