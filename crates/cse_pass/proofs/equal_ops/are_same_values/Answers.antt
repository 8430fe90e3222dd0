use Rattle.std.proofs.Common.{arith, sym}
use Rattle.std.specs.Cmp.Lexicographic.{unequal}
use Rattle.ir_store.specs.BodyOps.{same_value}
use Rattle.cse_pass.proofs.equal_ops.are_same_values.Goals as goal

pub returns-then-xs-ys : goal.returns-then-xs-ys
returns-then-xs-ys c = sym (unequal same_value c.args.xs.now c.args.ys.now (λ e. omega (arith, e)))
