use Rattle.std.proofs.Common.{take}
use Rattle.graphs.specs.Graphs.{lists_of}
use Rattle.graphs.proofs.Placing.{IsPlacing}
use Rattle.graphs.proofs.order.place.Given as goal

abbrev pub invariant-loop-node : goal.invariant-loop-node
invariant-loop-node l = IsPlacing (lists_of l.graph) (take l.node-index l.candidates) l.fn.placed l.placed l.nodes.items l.changed
