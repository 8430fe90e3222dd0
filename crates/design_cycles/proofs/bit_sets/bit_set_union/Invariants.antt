use Rattle.std.proofs.Common.{take}
use Rattle.design_cycles.specs.BitSets.{JoinsBitSets}
use Rattle.design_cycles.proofs.bit_sets.bit_set_union.Given as goal

abbrev pub invariant-loop-node : goal.invariant-loop-node
invariant-loop-node l = JoinsBitSets l.bit_sets (take l.node-index l.nodes) l.bit_set
