use Rattle.std.proofs.Common.{sym, ◌∙◌, arith}
use Rattle.ir_store.specs.Bodies.{ops_of}
use Rattle.ir_store.specs.Numbered.{ops_by_position}
use Rattle.body_index.specs.OpIndexes.{op_view}
use Rattle.and_gates.specs.Clocks.{is_async}
use Rattle.and_gates.proofs.Scanning.{any_later, any_here, any_none}
use Rattle.and_gates.proofs.clocks.has_async.Goals as goal

pub loop-position-preserved : goal.loop-position-preserved
loop-position-preserved c =
    let b = c.args.ops.now.body.now in
    any_later is_async (ops_by_position (ops_of b)) c.loop-position.position (op_view b c.op_at-op.result) c.op_at-op.ensures (sym c.is_async.ensures ∙ c.if-is_async.false) c.loop-position.invariant

pub returns : goal.returns
returns c =
    let os = ops_by_position (ops_of c.args.ops.now.body.now) in
    sym (any_none is_async os c.loop-position.position (omega (arith, c.count-position-end.ensures, c.loop-position-test.false)) c.loop-position.invariant)

pub returns-then-is_async : goal.returns-then-is_async
returns-then-is_async c =
    let b = c.args.ops.now.body.now in
    sym (any_here is_async (ops_by_position (ops_of b)) c.loop-position.position (op_view b c.op_at-op.result) c.op_at-op.ensures (sym c.is_async.ensures ∙ c.if-is_async.true) c.loop-position.invariant)
