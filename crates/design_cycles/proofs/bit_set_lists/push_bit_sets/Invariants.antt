use Rattle.std.proofs.Common.{map}
use Rattle.graphs.specs.Graphs.{lists_of}
use Rattle.design_cycles.specs.Nodes.{value_node}
use Rattle.design_cycles.proofs.Chunks.{HasAdded}
use Rattle.design_cycles.proofs.bit_set_lists.push_bit_sets.Given as goal

abbrev pub invariant-loop-k : goal.invariant-loop-k
invariant-loop-k l = HasAdded l.bit_sets (map (value_node l.layout) l.values) l.first l.count l.k (lists_of l.fn.lists.items) (lists_of l.lists.items)
