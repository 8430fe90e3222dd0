use Rattle.graphs.specs.Graphs.{lists_of}
use Rattle.design_cycles.specs.BitSets.{room_left}
use Rattle.design_cycles.proofs.BitSetLemmas.{HasSpread}
use Rattle.design_cycles.proofs.bit_sets.settle.Given as goal

abbrev pub invariant-loop : goal.invariant-loop
invariant-loop l = HasSpread (lists_of l.graph) l.fn.bit_sets l.bit_sets

abbrev pub decreases-loop : goal.decreases-loop
decreases-loop l = room_left l.bit_sets
