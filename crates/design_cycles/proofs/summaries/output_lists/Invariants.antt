use Rattle.std.proofs.Common.{map, take}
use Rattle.graphs.specs.Graphs.{lists_of}
use Rattle.design_cycles.specs.Nodes.{value_node}
use Rattle.design_cycles.specs.Summing.{AreOutputs}
use Rattle.design_cycles.proofs.summaries.output_lists.Given as goal

abbrev pub invariant-loop-value : goal.invariant-loop-value
invariant-loop-value l = AreOutputs (lists_of l.graph) l.inputs (map (value_node l.layout) (take l.value-index l.values)) (lists_of l.lists.items)
