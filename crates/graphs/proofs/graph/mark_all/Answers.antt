use Rattle.std.proofs.Common.{arith, ap, ◌∙◌}
use Rattle.graphs.proofs.Marking.{pass_mark, pass_skip}
use Rattle.graphs.proofs.graph.mark_all.Goals as goal
use Rattle.graphs.proofs.graph.mark_all.Goals.{then-is_open+in_ok-push, else-is_open}

pub loop-node-preserved : goal.loop-node-preserved
loop-node-preserved c =
    elim c.if-is_open.branch [
      | then-is_open+in_ok-push w ↦
          pass_mark c.args.nodes.now c.loop-node.node-index (omega arith) c.args.marks.now c.loop-node.marks c.args.waiting.now.items c.loop-node.waiting.items
          c.loop-node.invariant c.is_open.result c.is_open.ensures c.if-is_open.marks c.if-is_open.waiting.items w.if-is_open.true w.marks-is
          (ap (λ v. v.items) w.waiting-is ∙ w.in_ok-push.ensures.items)
      | else-is_open w ↦
          pass_skip c.args.nodes.now c.loop-node.node-index (omega arith) c.args.marks.now c.loop-node.marks c.args.waiting.now.items c.loop-node.waiting.items
          c.loop-node.invariant c.is_open.result c.is_open.ensures c.if-is_open.marks c.if-is_open.waiting.items w.if-is_open.false w.marks-is (ap (λ v. v.items) w.waiting-is)
    ]
