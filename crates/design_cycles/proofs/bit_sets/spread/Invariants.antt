use Rattle.std.proofs.Common.{take}
use Rattle.graphs.specs.Graphs.{lists_of}
use Rattle.design_cycles.specs.BitSets.{Spreads}
use Rattle.design_cycles.proofs.bit_sets.spread.Given as goal

abbrev pub invariant-loop-node : goal.invariant-loop-node
invariant-loop-node l = Spreads (lists_of l.graph) (take l.node-index l.nodes) l.fn.bit_sets l.bit_sets l.changed
