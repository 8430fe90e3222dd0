use Rattle.std.proofs.Common.{◌≡◌, ◌++◌}
use Rattle.graphs.specs.Graphs.{lists_of, times_over}
use Rattle.design_cycles.specs.Nodes.{value_nodes}
use Rattle.design_cycles.proofs.wires.push_made.Given as goal

abbrev pub invariant-loop : goal.invariant-loop
invariant-loop l = lists_of l.graph.items ≡ lists_of l.fn.graph.items ++ times_over l.counter (value_nodes l.layout l.operands)
