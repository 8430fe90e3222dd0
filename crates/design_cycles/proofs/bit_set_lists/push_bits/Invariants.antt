use Rattle.design_cycles.specs.BitSets.{AddsBits}
use Rattle.design_cycles.proofs.bit_set_lists.push_bits.Given as goal

abbrev pub invariant-loop-x : goal.invariant-loop-x
invariant-loop-x l = AddsBits l.bit_set l.first l.x l.fn.numbers.items l.numbers.items
