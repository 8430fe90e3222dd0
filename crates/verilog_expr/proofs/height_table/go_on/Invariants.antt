use Rattle.std.proofs.Common.{◌≡◌, ◌<◌, map, drop, max}
use Rattle.verilog_expr.specs.Scopes.{scope_ports, scope_ops, scope_ref}
use Rattle.verilog_expr.specs.PartTables.{stands_most}
use Rattle.verilog_expr.proofs.height_table.go_on.Given as goal

abbrev pub invariant-loop-passed : goal.invariant-loop-passed
invariant-loop-passed l = record {
  most : max l.most (stands_most (scope_ports l.scope) (scope_ops l.scope) (drop l.passed (map (scope_ref l.scope) l.operands)))
      ≡ stands_most (scope_ports l.scope) (scope_ops l.scope) (map (scope_ref l.scope) l.operands);
  low : l.most < 64;
}
