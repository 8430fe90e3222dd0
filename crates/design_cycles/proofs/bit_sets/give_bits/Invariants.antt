use Rattle.std.proofs.Common.{take}
use Rattle.design_cycles.specs.BitSets.{GivesBits}
use Rattle.design_cycles.proofs.bit_sets.give_bits.Given as goal

abbrev pub invariant-loop-x : goal.invariant-loop-x
invariant-loop-x l = GivesBits (take l.x l.inputs) l.fn.bit_sets l.bit_sets
