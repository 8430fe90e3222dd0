use Rattle.std.proofs.Common.{◌≡◌, ℕ, ◌+◌, ◌<◌, length, drop, subst, sym, ap, ◌∙◌, arith}
use Rattle.hw_model.specs.Design.{result_type, is_instance}
use Rattle.hw_model.specs.Design.Ref.{result as result_of}
use Rattle.hw_model.specs.Flat.{width_of}
use Rattle.verilog_expr.specs.Scopes.{scope_ports, scope_ops, op_read}
use Rattle.verilog_expr.specs.Marks.{mark_at, no_mark, after_ops, after_operands}
use Rattle.verilog_expr.specs.Spilling.{is_narrower}
use Rattle.verilog_expr.specs.Expressions.{value_width}
use Rattle.verilog_expr.proofs.Marking.{ops_step, ops_end, all_none, width_there, written_back}
use Rattle.verilog_expr.proofs.marks.marks_of.Goals as goal

pub loop-position-init : goal.loop-position-init
loop-position-init c =
    let items = c.in_ok-marks.ensures.items_if_clones_equal (λ y e. e) in
    let none : (i : ℕ) → mark_at c.in_ok-marks.marks.items i ≡ no_mark = λ i. ap (λ ms. mark_at ms i) items ∙ all_none c.count-count.result i in
    record {
      count = omega (arith, c.in_ok-marks.ensures.len, c.in_ok-marks.marks.ok.0, c.count-count.ensures);
      few = λ i. omega (arith, ap (λ m. m.uses) (none i));
      kept = λ i lt. ap (after_ops (scope_ports c.args.scope.now) (scope_ops c.args.scope.now) (result_of i 0) (scope_ops c.args.scope.now)) (none i);
    }

pub mark_operands-requires : goal.mark_operands-requires
mark_operands-requires c = record {
  count = ap length c.as_mut_slice.ensures.value ∙ c.loop-position.invariant.count;
  few = λ i. subst (λ ms. (mark_at ms i).uses < 3) (sym c.as_mut_slice.ensures.value) (c.loop-position.invariant.few i);
}

pub loop-position-preserved : goal.loop-position-preserved
loop-position-preserved c =
    let ports = scope_ports c.args.scope.now in
    let os = scope_ops c.args.scope.now in
    let o = op_read c.args.scope.now c.op_at-op.result in
    let same_length : length c.mark_operands.new.marks ≡ length c.loop-position.marks.items = omega (arith, c.mark_operands.auto.marks, ap length c.as_mut_slice.ensures.value) in
    let back = written_back c.loop-position.marks.len c.mark_operands.new.marks c.loop-position.marks.items same_length c.loop-position.marks.ok.0 in
    let narrow : width_of (result_type o 0) < 129 = width_there ports os c.loop-position.position o c.op_at-op.ensures c.args.scope.now.small in
    let width : c.result_width.result ≡ width_of (result_type o 0) = omega (arith, c.result_width.ensures, narrow) in
    record {
      count = ap length back ∙ same_length ∙ c.loop-position.invariant.count;
      few = λ i. subst (λ ms. (mark_at ms i).uses < 3) (sym back) (c.mark_operands.ensures.few i);
      kept = λ i lt.
          ap (λ ms. after_ops ports os (result_of i 0) (drop (c.loop-position.position + 1) os) (mark_at ms i)) back
          ∙ ops_step ports os (result_of i 0) c.loop-position.position o (mark_at c.loop-position.marks.items i) (mark_at c.mark_operands.new.marks i) _ c.op_at-op.ensures
          (c.loop-position.invariant.kept i lt)
          (c.mark_operands.ensures.marks i (omega (arith, lt, c.loop-position.invariant.count, ap length c.as_mut_slice.ensures.value))
          ∙ ap (λ ms. after_operands (result_of i 0) (is_narrower o.kind c.result_width.result (value_width ports os (result_of i 0))) (is_instance o) o.operands (mark_at ms i)) c.as_mut_slice.ensures.value
          ∙ ap (λ w. after_operands (result_of i 0) (is_narrower o.kind w (value_width ports os (result_of i 0))) (is_instance o) o.operands (mark_at c.loop-position.marks.items i)) width);
    }

pub returns : goal.returns
returns c = record {
  count = c.loop-position.invariant.count;
  marks = λ i lt.
      ops_end (scope_ports c.args.scope.now) (scope_ops c.args.scope.now) (result_of i 0) c.loop-position.position (mark_at c.loop-position.marks.items i) _
      (c.loop-position.invariant.few i) (omega (arith, c.loop-position-test.false, c.count-count.ensures)) (c.loop-position.invariant.kept i lt);
}
