use Rattle.std.proofs.Common.{is_some, get_or, arith}
use Rattle.hw_model.specs.Design.{instance_in}
use Rattle.hw_model.specs.Design.Ref.{result as result_of}
use Rattle.hw_model.specs.KindViews.{kind_of}
use Rattle.ir_store.specs.declared.operation.Value.TheVariants.{Port}
use Rattle.verilog_expr.specs.Spilling.{is_narrower}
use Rattle.verilog_expr.specs.Expressions.{value_width}
use Rattle.verilog_expr.specs.Scopes.{scope_ports, scope_ops, scope_ref}
use Rattle.verilog_expr.specs.Marks.{mark_at}
use Rattle.verilog_expr.proofs.Marking.{operands_step, operands_end, any_default}
use Rattle.verilog_expr.proofs.marks.mark_operands.Goals as goal

pub loop-value-preserved : goal.loop-value-preserved
loop-value-preserved c = record {
  few = c.mark_value.ensures.few;
  kept = λ i lt.
      operands_step (result_of i 0)
      (is_narrower (kind_of c.args.kind.now) c.args.width (value_width (scope_ports c.args.scope.now) (scope_ops c.args.scope.now) (result_of i 0)))
      (is_some (instance_in (kind_of c.args.kind.now))) (scope_ref c.args.scope.now) c.args.operands.now c.loop-value.value-index (get_or c.args.operands.now c.loop-value.value-index (Port 0))
      (mark_at c.loop-value.marks i) (mark_at c.mark_value.new.marks i) _ c.loop-value-test.true (any_default c.args.operands.now c.loop-value.value-index (Port 0) c.loop-value-test.true)
      (c.loop-value.invariant.kept i lt) (c.mark_value.ensures.marks i (omega (arith, lt, c.loop-value.auto.marks)));
}

pub returns : goal.returns
returns c = record {
  marks = λ i lt.
      operands_end (result_of i 0)
      (is_narrower (kind_of c.args.kind.now) c.args.width (value_width (scope_ports c.args.scope.now) (scope_ops c.args.scope.now) (result_of i 0)))
      (is_some (instance_in (kind_of c.args.kind.now))) (scope_ref c.args.scope.now) c.args.operands.now c.loop-value.value-index
      (mark_at c.loop-value.marks i) _ (c.loop-value.invariant.few i) c.loop-value-test.false (c.loop-value.invariant.kept i lt);
  few = c.loop-value.invariant.few;
}
