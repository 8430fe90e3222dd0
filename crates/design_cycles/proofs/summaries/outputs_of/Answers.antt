use Rattle.std.proofs.Common.{arith}
use Rattle.ir_store.specs.Bodies.{ops_of}
use Rattle.ir_store.specs.Numbered.{ops_by_position}
use Rattle.body_index.specs.OpIndexes.{op_view}
use Rattle.design_cycles.proofs.Pushing.{ids_count, output_here, output_later, output_nowhere}
use Rattle.design_cycles.proofs.summaries.outputs_of.Goals as goal

pub returns-in-Gives : goal.returns-in-Gives
returns-in-Gives c =
    output_here (ops_by_position (ops_of c.args.body.now)) c.loop-position.position c.loop-position.invariant (op_view c.args.body.now c.op_at-op.result) c.op_at-op.ensures c.in-Gives.ensures.output

pub loop-position-preserved : goal.loop-position-preserved
loop-position-preserved c =
    output_later (ops_by_position (ops_of c.args.body.now)) c.loop-position.position c.loop-position.invariant (op_view c.args.body.now c.op_at-op.result) c.op_at-op.ensures
    c.sort_of.result c.in_default.not-Gives c.sort_of.ensures.output

pub returns : goal.returns
returns c =
    output_nowhere (ops_by_position (ops_of c.args.body.now)) c.loop-position.position c.loop-position.invariant
    (omega (arith, c.loop-position-test.false, ids_count c.args.body.now c.args.ids.now c.requires))
