use Rattle.std.proofs.Common.{arith}
use Rattle.verilog_expr.specs.Scopes.{scope_ref}
use Rattle.verilog_expr.proofs.expr.Expr.constant.Goals as goal

pub constant_at-number-requires : goal.constant_at-number-requires
constant_at-number-requires c = omega (arith, c.width-bits.ensures, c.args.scope.now.small (scope_ref c.args.scope.now c.args.value))
