use Rattle.std.proofs.Common.{map, arith, ap, ◌∙◌}
use Rattle.std.proofs.lemmas.List.{take_all}
use Rattle.ir_store.specs.Bodies.{ops_of}
use Rattle.ir_store.specs.Numbered.{ops_by_position}
use Rattle.flat_module_gates.specs.Orders.{needs_of}
use Rattle.flat_module_gates.proofs.Orders.{graph_more}
use Rattle.flat_module_gates.proofs.order.graph_of.Goals as goal

pub loop-position-preserved : goal.loop-position-preserved
loop-position-preserved c =
    graph_more (ops_by_position (ops_of c.args.ops.now.body.now)) c.loop-position.position c.loop-position.graph.items c.push.new.self.items c.in_ok-needs.needs
    c.loop-position.invariant c.in_ok-push.ensures.items c.in_ok-needs.ensures

pub returns : goal.returns
returns c =
    let os = ops_by_position (ops_of c.args.ops.now.body.now) in
    c.loop-position.invariant ∙ ap (map needs_of) (take_all c.loop-position.position os (omega arith))
