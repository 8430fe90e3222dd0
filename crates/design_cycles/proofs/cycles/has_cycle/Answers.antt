use Rattle.std.proofs.Common.{MatchBool, subst}
use Rattle.wiring.specs.Wiring.{Depends}
use Rattle.graphs.specs.Graphs.{lists_of, edges}
use Rattle.design_cycles.proofs.Cyclic.{node_more, closed_node, none_within}
use Rattle.design_cycles.proofs.cycles.has_cycle.Goals as goal
use Rattle.design_cycles.proofs.cycles.has_cycle.Goals.{else-is_open-via-then-is_open+in_ok-needs_itself+else-branch, else-is_open-via-else-is_open}

pub loop-node-preserved : goal.loop-node-preserved
loop-node-preserved c =
    elim c.else-is_open.branch [
      | else-is_open-via-then-is_open+in_ok-needs_itself+else-branch w ↦
          node_more (lists_of c.args.graph.now) c.args.span.start c.loop-node.node c.loop-node.invariant
          (subst (λ b. MatchBool b (Depends (edges (lists_of c.args.graph.now)) c.loop-node.node c.loop-node.node) (Depends (edges (lists_of c.args.graph.now)) c.loop-node.node c.loop-node.node → ⊥))
          w.if-branch.false w.in_ok-needs_itself.ensures)
      | else-is_open-via-else-is_open w ↦
          node_more (lists_of c.args.graph.now) c.args.span.start c.loop-node.node c.loop-node.invariant
          (closed_node c.args.graph.now c.args.placed.now c.loop-node.node c.is_open.result c.requires.count c.requires.placed c.is_open.ensures w.if-is_open.false)
    ]

pub returns : goal.returns
returns c = none_within (lists_of c.args.graph.now) c.args.span.start c.args.span.size c.loop-node.node c.loop-node-test.false c.loop-node.invariant
