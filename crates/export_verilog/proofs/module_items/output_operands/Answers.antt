use Rattle.std.proofs.Common.{sym, ◌∙◌, arith}
use Rattle.hw_model.specs.Design.{output_refs}
use Rattle.verilog_expr.specs.Scopes.{scope_ops, op_read}
use Rattle.export_verilog.proofs.text.OutputItems.{output_here, output_later, output_nowhere}
use Rattle.export_verilog.proofs.module_items.output_operands.Goals as goal

pub returns-then-is_output_kind : goal.returns-then-is_output_kind
returns-then-is_output_kind c =
    let s = c.args.scope.now in
    output_here (scope_ops s) c.loop-position.position (output_refs (scope_ops s)) c.loop-position.invariant (op_read s c.op_at-op.result) c.op_at-op.ensures (sym c.is_output_kind.ensures ∙ c.if-is_output_kind.true)

pub loop-position-preserved : goal.loop-position-preserved
loop-position-preserved c =
    let s = c.args.scope.now in
    output_later (scope_ops s) c.loop-position.position (output_refs (scope_ops s)) c.loop-position.invariant (op_read s c.op_at-op.result) c.op_at-op.ensures (sym c.is_output_kind.ensures ∙ c.if-is_output_kind.false)

pub returns : goal.returns
returns c =
    let s = c.args.scope.now in
    output_nowhere (scope_ops s) c.loop-position.position (output_refs (scope_ops s)) c.loop-position.invariant (omega (arith, c.loop-position-test.false, c.count-position-end.ensures))
