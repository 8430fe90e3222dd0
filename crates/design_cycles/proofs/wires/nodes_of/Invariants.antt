use Rattle.std.proofs.Common.{◌≡◌, take}
use Rattle.design_cycles.specs.Nodes.{value_nodes}
use Rattle.design_cycles.proofs.wires.nodes_of.Given as goal

abbrev pub invariant-loop-value : goal.invariant-loop-value
invariant-loop-value l = l.nodes.items ≡ value_nodes l.layout (take l.value-index l.values)
