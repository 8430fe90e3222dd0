use Rattle.graphs.specs.Graphs.{lists_of}
use Rattle.graphs.specs.Orders.{IsOrder}
use Rattle.graphs.specs.Marks.{open_count}
use Rattle.graphs.proofs.order.place_all.Given as goal

abbrev pub invariant-loop : goal.invariant-loop
invariant-loop l = IsOrder (lists_of l.graph) l.placed l.nodes.items

abbrev pub decreases-loop : goal.decreases-loop
decreases-loop l = open_count l.placed
