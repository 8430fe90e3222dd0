use Rattle.std.proofs.Common.{arith, ap, ◌∙◌, subst}
use Rattle.std.proofs.lemmas.List.{take_all}
use Rattle.graphs.specs.Graphs.{lists_of}
use Rattle.graphs.specs.Orders.{Placed}
use Rattle.graphs.proofs.Placing.{placing_position, placing_skip}
use Rattle.graphs.proofs.order.place.Goals as goal
use Rattle.graphs.proofs.order.place.Goals.{then-can_be_placed+in_ok-push, else-can_be_placed}

pub loop-node-preserved : goal.loop-node-preserved
loop-node-preserved c =
    elim c.if-can_be_placed.branch [
      | then-can_be_placed+in_ok-push w ↦
          placing_position (lists_of c.args.graph.now) c.args.candidates.now c.loop-node.node-index (omega arith) c.args.placed.now c.loop-node.placed c.loop-node.nodes.items c.loop-node.changed
          c.loop-node.invariant c.can_be_placed.result c.can_be_placed.ensures c.if-can_be_placed.placed c.if-can_be_placed.nodes.items c.if-can_be_placed.changed
          w.if-can_be_placed.true w.placed-is (ap (λ v. v.items) w.nodes-is ∙ w.in_ok-push.ensures.items) w.changed-is
      | else-can_be_placed w ↦
          placing_skip (lists_of c.args.graph.now) c.args.candidates.now c.loop-node.node-index (omega arith) c.args.placed.now c.loop-node.placed c.loop-node.nodes.items c.loop-node.changed
          c.loop-node.invariant c.can_be_placed.result c.can_be_placed.ensures c.if-can_be_placed.placed c.if-can_be_placed.nodes.items c.if-can_be_placed.changed
          w.if-can_be_placed.false w.placed-is (ap (λ v. v.items) w.nodes-is) w.changed-is
    ]

pub returns-clause-changed : goal.returns-clause-changed
returns-clause-changed c =
    subst (λ done. Placed (lists_of c.args.graph.now) done c.args.placed.now c.loop-node.placed c.loop-node.changed)
    (take_all c.loop-node.node-index c.args.candidates.now (omega arith)) c.loop-node.invariant.progress
