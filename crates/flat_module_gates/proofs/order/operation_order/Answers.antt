use Rattle.std.proofs.Common.{◌<◌, length, ap, sym, subst, ◌∙◌}
use Rattle.ir_store.specs.Bodies.{ops_of}
use Rattle.ir_store.specs.Numbered.{ops_by_position}
use Rattle.graphs.specs.Graphs.{lists_of}
use Rattle.graphs.specs.Orders.{MustWait, IsOrder as IsGraphOrder}
use Rattle.graphs.proofs.Marking.{length-lists}
use Rattle.flat_module_laws.specs.Orders.{IsOrder}
use Rattle.flat_module_gates.specs.Orders.{HasOrder}
use Rattle.flat_module_gates.proofs.Orders.{order_found}
use Rattle.flat_module_gates.proofs.order.operation_order.Goals as goal

pub returns : goal.returns
returns c =
    let os = ops_by_position (ops_of c.in_ok-ops.ops.body.now) in
    let graph = c.in_ok-graph.graph.items in
    let order = c.in_ok-order.order in
    let given = c.as_slice.ensures.value in
    subst (λ b. IsOrder (ops_by_position b) order.nodes.items) (ap ops_of c.in_ok-ops.ensures)
    (order_found os (lists_of graph) order.placed.items order.nodes.items c.in_ok-graph.ensures (subst (λ b. HasOrder (ops_by_position b)) (sym (ap ops_of c.in_ok-ops.ensures)) c.requires)
    (subst (λ g. IsGraphOrder (lists_of g) order.placed.items order.nodes.items) given c.in_ok-order.ensures.order)
    (λ v below. subst (λ g. MustWait (lists_of g) order.placed.items v) given
    (c.in_ok-order.ensures.longest v (subst (λ n. v < n) (length-lists graph ∙ ap length (sym given)) below))))
