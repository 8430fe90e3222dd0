use Rattle.std.proofs.Common.{ap, ◌∙◌}
use Rattle.design_cycles.proofs.NodeLists.{picked_more, with_some, with_none}
use Rattle.design_cycles.proofs.wires.picked_nodes.Goals as goal
use Rattle.design_cycles.proofs.wires.picked_nodes.Goals.{in-Some+in_ok-push, in_default}

pub loop-number-preserved : goal.loop-number-preserved
loop-number-preserved c =
    elim c.match-picked_node.branch [
      | in-Some+in_ok-push w ↦
          picked_more c.args.layout.now c.args.operands.now c.args.numbers.now c.loop-number.number-index c.match-picked_node.nodes.items c.loop-number.nodes.items c.picked_node.result
          c.loop-number-test.true c.loop-number.invariant c.picked_node.ensures
          (with_some c.picked_node.result w.in-Some.node c.match-picked_node.nodes.items c.loop-number.nodes.items w.in-Some.is (ap (λ v. v.items) w.nodes-is ∙ w.in_ok-push.ensures.items))
      | in_default w ↦
          picked_more c.args.layout.now c.args.operands.now c.args.numbers.now c.loop-number.number-index c.match-picked_node.nodes.items c.loop-number.nodes.items c.picked_node.result
          c.loop-number-test.true c.loop-number.invariant c.picked_node.ensures
          (with_none c.picked_node.result c.match-picked_node.nodes.items c.loop-number.nodes.items w.in_default.is (ap (λ v. v.items) w.nodes-is))
    ]
