use Rattle.std.proofs.Common.{arith}
use Rattle.verilog_expr.specs.Scopes.{scope_ref}
use Rattle.verilog_expr.proofs.node.is_zero.Goals as goal

pub constant_number-requires : goal.constant_number-requires
constant_number-requires c = omega (arith, c.width-bits.ensures, c.args.scope.now.small (scope_ref c.args.scope.now c.args.value))
