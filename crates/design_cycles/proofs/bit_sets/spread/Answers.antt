use Rattle.graphs.specs.Graphs.{lists_of}
use Rattle.design_cycles.proofs.BitSetLemmas.{spread_changed, spread_unchanged}
use Rattle.design_cycles.proofs.bit_sets.spread.Goals as goal
use Rattle.design_cycles.proofs.bit_sets.spread.Goals.{then-add_needs, else-add_needs}

pub loop-node-preserved : goal.loop-node-preserved
loop-node-preserved c =
    elim c.if-add_needs.branch [
      | then-add_needs w ↦
          spread_changed (lists_of c.args.graph.now) c.args.nodes.now c.loop-node.node-index c.args.bit_sets.now c.loop-node.bit_sets c.add_needs.new.bit_sets c.loop-node.changed c.add_needs.result
          c.if-add_needs.changed c.loop-node-test.true c.loop-node.invariant c.add_needs.ensures w.if-add_needs.true w.changed-is
      | else-add_needs w ↦
          spread_unchanged (lists_of c.args.graph.now) c.args.nodes.now c.loop-node.node-index c.args.bit_sets.now c.loop-node.bit_sets c.add_needs.new.bit_sets c.loop-node.changed c.add_needs.result
          c.if-add_needs.changed c.loop-node-test.true c.loop-node.invariant c.add_needs.ensures w.if-add_needs.false w.changed-is
    ]
