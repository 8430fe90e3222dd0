use Rattle.std.proofs.Common.{map, length}
use Rattle.graphs.specs.Graphs.{lists_of}
use Rattle.design_cycles.specs.Nodes.{value_node}
use Rattle.design_cycles.proofs.Chunks.{HasListed}
use Rattle.design_cycles.proofs.bit_set_lists.bit_set_lists.Given as goal

abbrev pub invariant-loop-left : goal.invariant-loop-left
invariant-loop-left l = HasListed (lists_of l.graph) l.inputs (map (value_node l.layout) l.values) l.left l.first (lists_of l.lists.items)

abbrev pub decreases-loop-left : goal.decreases-loop-left
decreases-loop-left l = length l.left
