use Rattle.std.proofs.Common.{ap, ◌∙◌, get_or, refl}
use Rattle.ir_store.specs.declared.operation.Value.TheVariants.{Port}
use Rattle.design_cycles.proofs.NodeLists.{values_more, with_some, with_none}
use Rattle.design_cycles.proofs.wires.nodes_of.Goals as goal
use Rattle.design_cycles.proofs.wires.nodes_of.Goals.{in-Some+in_ok-push, in_default}

pub loop-value-preserved : goal.loop-value-preserved
loop-value-preserved c =
    elim c.match-node_of.branch [
      | in-Some+in_ok-push w ↦
          values_more c.args.layout.now c.args.values.now c.loop-value.value-index (get_or c.args.values.now c.loop-value.value-index (Port 0)) (Port 0) c.match-node_of.nodes.items c.loop-value.nodes.items c.node_of.result
          c.loop-value-test.true refl c.loop-value.invariant c.node_of.ensures
          (with_some c.node_of.result w.in-Some.node c.match-node_of.nodes.items c.loop-value.nodes.items w.in-Some.is (ap (λ v. v.items) w.nodes-is ∙ w.in_ok-push.ensures.items))
      | in_default w ↦
          values_more c.args.layout.now c.args.values.now c.loop-value.value-index (get_or c.args.values.now c.loop-value.value-index (Port 0)) (Port 0) c.match-node_of.nodes.items c.loop-value.nodes.items c.node_of.result
          c.loop-value-test.true refl c.loop-value.invariant c.node_of.ensures
          (with_none c.node_of.result c.match-node_of.nodes.items c.loop-value.nodes.items w.in_default.is (ap (λ v. v.items) w.nodes-is))
    ]
