use Rattle.std.proofs.Common.{◌≡◌, ◌++◌, take, map}
use Rattle.graphs.specs.Graphs.{lists_of}
use Rattle.design_cycles.specs.Nodes.{picked_values}
use Rattle.design_cycles.proofs.wires.push_instance.Given as goal

abbrev pub invariant-loop-output : goal.invariant-loop-output
invariant-loop-output l =
    lists_of l.graph.items ≡ lists_of l.fn.graph.items ++ map (picked_values l.layout l.operands) (lists_of (take l.output-index l.outputs))
