use Rattle.std.proofs.Common.{get_or, arith}
use Rattle.graphs.proofs.Placing.{marked_more, In-at}
use Rattle.graphs.proofs.order.are_marked.Goals as goal

pub returns-then-is_open : goal.returns-then-is_open
returns-then-is_open c =
    let found = c.is_open.ensures.0 c.if-is_open.true in
    (get_or c.args.nodes.now c.loop-node.node-index 0, In-at c.args.nodes.now c.loop-node.node-index (omega arith), found.0, found.1)

pub loop-node-preserved : goal.loop-node-preserved
loop-node-preserved c =
    marked_more c.args.nodes.now c.loop-node.node-index c.args.marks.now c.is_open.result (omega arith) c.loop-node.invariant c.is_open.ensures c.if-is_open.false
