use Rattle.std.proofs.Common.{arith}
use Rattle.design_cycles.proofs.BitSetLemmas.{bit_sets_given}
use Rattle.design_cycles.proofs.bit_sets.bit_sets_of.Goals as goal

pub returns : goal.returns
returns c =
    bit_sets_given c.args.graph.now c.args.inputs.now c.in_ok-bit_sets.bit_sets.items c.deref_mut.result.now c.give_bits.new.bit_sets c.deref_mut-2.result.now c.settle.new.bit_sets c.in_ok-bit_sets.bit_sets.len
    c.in_ok-bit_sets.bit_sets.ok.0 (omega (arith, c.in_ok-bit_sets.ensures.len, c.in_ok-bit_sets.bit_sets.ok.0)) (c.in_ok-bit_sets.ensures.items_if_clones_equal (λ y e. e)) c.deref_mut.ensures.value c.deref_mut-2.ensures.value
    c.give_bits.ensures c.settle.ensures
