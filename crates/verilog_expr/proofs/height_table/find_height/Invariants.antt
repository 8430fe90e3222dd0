use Rattle.std.proofs.Common.{◌≡◌, ◌+◌, ◌<◌, ◌≤◌, length, true, is_some}
use Rattle.verilog_expr.specs.Scopes.{scope_ports, scope_ops}
use Rattle.verilog_expr.specs.PartTables.{AreKnown, AreStill, height_get}
use Rattle.verilog_expr.proofs.HeightPaths.{IsPath, waiting_at, measure}
use Rattle.verilog_expr.proofs.height_table.find_height.Given as goal

abbrev pub invariant-loop-depth : goal.invariant-loop-depth
invariant-loop-depth l = record {
  known : AreKnown (scope_ports l.scope) (scope_ops l.scope) l.heights;
  still : AreStill l.initial.heights l.heights;
  path : IsPath (scope_ports l.scope) (scope_ops l.scope) l.heights l.path l.depth;
  room : l.depth ≤ length (scope_ops l.scope) + 1;
  first : 0 < l.depth → (waiting_at l.path 0).position ≡ l.position;
  found : l.depth ≡ 0 → is_some (height_get l.heights l.position) ≡ true;
}

abbrev pub decreases-loop-depth : goal.decreases-loop-depth
decreases-loop-depth l = measure l.heights l.depth
