use Rattle.std.proofs.Common.{◌≡◌, ℕ, ◌<◌, length}
use Rattle.hw_model.specs.Design.Ref.{result as result_of}
use Rattle.verilog_expr.specs.Spilling as told
use Rattle.verilog_expr.specs.Scopes.{scope_ports, scope_ops}
use Rattle.verilog_expr.specs.PartTables.{part_seen, part_get}
use Rattle.verilog_expr.proofs.nesting.parts_of.Given as goal

abbrev pub invariant-loop-position : goal.invariant-loop-position
invariant-loop-position l = record {
  count : length l.parts.items ≡ l.position;
  parts : (i : ℕ) → i < l.position → part_seen (part_get l.parts.items i) ≡ told.part (scope_ports l.scope) (scope_ops l.scope) (result_of i 0);
}
