use Rattle.std.proofs.Common.{◌≡◌, ℕ, ◌<◌, length, None}
use Rattle.verilog_expr.specs.PartTables.{height_get}
use Rattle.verilog_expr.proofs.height_table.no_heights.Given as goal

abbrev pub invariant-loop-position : goal.invariant-loop-position
invariant-loop-position l = record {
  count : length l.heights.items ≡ l.position;
  none : (i : ℕ) → i < l.position → height_get l.heights.items i ≡ None;
}
