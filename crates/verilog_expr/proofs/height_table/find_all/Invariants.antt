use Rattle.std.proofs.Common.{◌≡◌, ℕ, ◌<◌, true, is_some}
use Rattle.verilog_expr.specs.Scopes.{scope_ports, scope_ops}
use Rattle.verilog_expr.specs.PartTables.{AreKnown, height_get}
use Rattle.verilog_expr.proofs.height_table.find_all.Given as goal

abbrev pub invariant-loop-position : goal.invariant-loop-position
invariant-loop-position l = record {
  known : AreKnown (scope_ports l.scope) (scope_ops l.scope) l.heights;
  found : (i : ℕ) → i < l.position → is_some (height_get l.heights i) ≡ true;
}
