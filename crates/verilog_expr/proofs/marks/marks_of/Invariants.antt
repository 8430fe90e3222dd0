use Rattle.std.proofs.Common.{◌≡◌, ℕ, ◌<◌, length, drop}
use Rattle.hw_model.specs.Design.Ref.{result as result_of}
use Rattle.verilog_expr.specs.Scopes.{scope_ports, scope_ops}
use Rattle.verilog_expr.specs.Marks.{mark_at, no_mark, after_ops}
use Rattle.verilog_expr.proofs.marks.marks_of.Given as goal

abbrev pub invariant-loop-position : goal.invariant-loop-position
invariant-loop-position l = record {
  count : length l.marks.items ≡ length (scope_ops l.scope);
  few : (i : ℕ) → (mark_at l.marks.items i).uses < 3;
  kept : (i : ℕ) → i < length (scope_ops l.scope)
      → after_ops (scope_ports l.scope) (scope_ops l.scope) (result_of i 0) (drop l.position (scope_ops l.scope)) (mark_at l.marks.items i)
      ≡ after_ops (scope_ports l.scope) (scope_ops l.scope) (result_of i 0) (scope_ops l.scope) no_mark;
}
