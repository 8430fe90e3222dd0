use Rattle.std.proofs.Common.{take}
use Rattle.graphs.specs.Orders.{AreMarked}
use Rattle.graphs.proofs.order.are_marked.Given as goal

abbrev pub invariant-loop-node : goal.invariant-loop-node
invariant-loop-node l = AreMarked (take l.node-index l.nodes) l.marks
