use Rattle.std.proofs.Common.{arith}
use Rattle.hw_model.specs.TypeViews.{field_of}
use Rattle.hw_model.proofs.SameFields.{differing}
use Rattle.hw_model.proofs.types.+same.Goals as goal

pub same_lists-returns-then-fs-gs : goal.same_lists-returns-then-fs-gs
same_lists-returns-then-fs-gs t c = differing field_of c.args.fs.now c.args.gs.now (λ e. omega (arith, e))
