use Rattle.std.proofs.Common.{◌≡◌, map, take}
use Rattle.graphs.specs.Graphs.{lists_of}
use Rattle.ir_store.specs.Bodies.{ops_of}
use Rattle.ir_store.specs.Numbered.{ops_by_position}
use Rattle.flat_module_gates.specs.Orders.{needs_of}
use Rattle.flat_module_gates.proofs.order.graph_of.Given as goal

abbrev pub invariant-loop-position : goal.invariant-loop-position
invariant-loop-position l = lists_of l.graph.items ≡ map needs_of (take l.position (ops_by_position (ops_of l.ops.body.now)))
