use Rattle.design_cycles.proofs.BitSetLemmas.{joins_step}
use Rattle.design_cycles.proofs.bit_sets.bit_set_union.Goals as goal

pub loop-node-preserved : goal.loop-node-preserved
loop-node-preserved c =
    joins_step c.args.bit_sets.now c.args.nodes.now c.loop-node.node-index c.loop-node.bit_set c.bit_set_at-bit_set.result c.loop-node-test.true c.loop-node.invariant c.bit_set_at-bit_set.ensures
