use Rattle.design_cycles.proofs.InputBits.{gives_more, gives_no_more}
use Rattle.design_cycles.proofs.bit_sets.give_bits.Goals as goal
use Rattle.design_cycles.proofs.bit_sets.give_bits.Goals.{then-node-bit_sets, else-node-bit_sets}

pub loop-x-preserved : goal.loop-x-preserved
loop-x-preserved c =
    elim c.if-node-bit_sets.branch [
      | then-node-bit_sets w ↦
          gives_more c.args.inputs.now c.loop-x.x c.args.bit_sets.now c.loop-x.bit_sets c.if-node-bit_sets.bit_sets c.loop-x-test.true c.requires c.loop-x.invariant w.if-node-bit_sets.true w.bit_sets-is
      | else-node-bit_sets w ↦
          gives_no_more c.args.inputs.now c.loop-x.x c.args.bit_sets.now c.loop-x.bit_sets c.if-node-bit_sets.bit_sets c.loop-x-test.true c.requires c.loop-x.invariant w.if-node-bit_sets.false w.bit_sets-is
    ]
