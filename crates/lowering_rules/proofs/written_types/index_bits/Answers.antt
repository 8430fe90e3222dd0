use Rattle.std.proofs.Common.{◌<◌, arith}
use Rattle.aggregate_laws.specs.Aggregates.{index_bits}
use Rattle.lowering_rules.proofs.IndexBits.{below_power, power_more, bits_next}
use Rattle.lowering_rules.proofs.written_types.index_bits.Goals as goal

pub overflow_add-bits : goal.overflow_add-bits
overflow_add-bits c =
    let small = below_power c.loop-reach.bits in
    let reach = c.loop-reach.invariant.reach in
    omega (arith, small, reach, c.loop-reach-test.true, c.from.ensures, c.ranges.length)

pub loop-reach-preserved : goal.loop-reach-preserved
loop-reach-preserved c =
    let reach = c.loop-reach.invariant.reach in
    let below : c.loop-reach.reach < c.args.length = omega (arith, c.loop-reach-test.true, c.from.ensures) in
    record {
      reach = power_more c.loop-reach.bits c.loop-reach.reach reach;
      left = bits_next c.loop-reach.bits c.loop-reach.reach c.args.length (index_bits c.args.length) reach below c.loop-reach.invariant.left;
    }
