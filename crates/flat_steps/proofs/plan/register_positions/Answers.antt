use Rattle.std.proofs.Common.{arith}
use Rattle.ir_store.specs.Bodies.{ops_of}
use Rattle.ir_store.specs.Numbered.{ops_by_position}
use Rattle.body_index.specs.OpIndexes.{op_view}
use Rattle.flat_steps.proofs.Gathering.{positions_more, positions_end}
use Rattle.flat_steps.proofs.plan.register_positions.Goals as goal

pub loop-position-preserved : goal.loop-position-preserved
loop-position-preserved c =
    let b = c.args.ops.now.body.now in
    positions_more (ops_by_position (ops_of b)) c.loop-position.position (op_view b c.op_at.result) c.loop-position.positions.items c.push_position.new.positions.items
    c.op_at.ensures (c.in_ok-push_position.ensures b) c.loop-position.invariant

pub returns : goal.returns
returns c =
    let os = ops_by_position (ops_of c.args.ops.now.body.now) in
    positions_end os c.loop-position.position c.loop-position.positions.items (omega (arith, c.count-position-end.ensures, c.loop-position-test.false)) c.loop-position.invariant
