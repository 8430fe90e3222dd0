use Rattle.std.proofs.Common.{refl, sym, ap, ◌∙◌, map, arith}
use Rattle.ir_store.specs.Bodies.{ids_of, ops_of}
use Rattle.ir_store.specs.Numbered.{position_of, ref_by, ops_by_position}
use Rattle.body_index.specs.OpIndexes.{op_view}
use Rattle.flat_module_gates.proofs.Loading.{outputs_here, outputs_later, outputs_none}
use Rattle.flat_steps.proofs.plan.output_values.Goals as goal

pub loop-position-preserved : goal.loop-position-preserved
loop-position-preserved c =
    let b = c.args.ops.now.body.now in
    outputs_later (ops_by_position (ops_of b)) c.loop-position.position (op_view b c.op_at-op.result) c.op_at-op.ensures (sym c.is_output.ensures ∙ c.if-is_output.false) c.loop-position.invariant

pub returns : goal.returns
returns c =
    let os = ops_by_position (ops_of c.args.ops.now.body.now) in
    let none = outputs_none os c.loop-position.position (omega (arith, c.count-position-end.ensures, c.loop-position-test.false)) c.loop-position.invariant in
    rw (none, c.new.ensures.items) refl

pub returns-then-is_output : goal.returns-then-is_output
returns-then-is_output c =
    let b = c.args.ops.now.body.now in
    let here = outputs_here (ops_by_position (ops_of b)) c.loop-position.position (op_view b c.op_at-op.result) c.op_at-op.ensures (sym c.is_output.ensures ∙ c.if-is_output.true) c.loop-position.invariant in
    ap (map (ref_by (position_of (ids_of b)))) c.in_ok-values.ensures.items ∙ sym here
