use Rattle.std.proofs.Common.{◌≡◌, ℕ, ◌<◌, length, map, drop, is_some}
use Rattle.hw_model.specs.Design.{instance_in}
use Rattle.hw_model.specs.Design.Ref.{result as result_of}
use Rattle.hw_model.specs.KindViews.{kind_of}
use Rattle.verilog_expr.specs.Spilling.{is_narrower}
use Rattle.verilog_expr.specs.Expressions.{value_width}
use Rattle.verilog_expr.specs.Scopes.{scope_ports, scope_ops, scope_ref}
use Rattle.verilog_expr.specs.Marks.{mark_at, after_operands}
use Rattle.verilog_expr.proofs.marks.mark_operands.Given as goal

abbrev pub invariant-loop-value : goal.invariant-loop-value
invariant-loop-value l = record {
  few : (i : ℕ) → (mark_at l.marks i).uses < 3;
  kept : (i : ℕ) → i < length l.initial.marks
      → after_operands (result_of i 0) (is_narrower (kind_of l.kind) l.width (value_width (scope_ports l.scope) (scope_ops l.scope) (result_of i 0))) (is_some (instance_in (kind_of l.kind)))
      (map (scope_ref l.scope) (drop l.value-index l.operands)) (mark_at l.marks i)
      ≡ after_operands (result_of i 0) (is_narrower (kind_of l.kind) l.width (value_width (scope_ports l.scope) (scope_ops l.scope) (result_of i 0))) (is_some (instance_in (kind_of l.kind)))
      (map (scope_ref l.scope) l.operands) (mark_at l.initial.marks i);
}
