use Rattle.std.proofs.Common.{length, refl}
use Rattle.graphs.specs.Graphs.{lists_of}
use Rattle.graphs.proofs.Marking.{length-lists}
use Rattle.ir_store.specs.Designs.{modules_of}
use Rattle.design_cycles.proofs.Sizing.{whole_order}
use Rattle.design_cycles.proofs.hierarchy.module_order.Goals as goal

pub returns : goal.returns
returns c =
    let hierarchy = c.in_ok-order.field-0 in
    let is = c.in_ok-order.ensures in
    whole_order (modules_of c.args.design.now) 0 c.requires.distinct c.requires.finite (lists_of hierarchy.calls.items) (length hierarchy.calls.items) is.calls
    hierarchy.order.placed.items hierarchy.order.nodes.items hierarchy.order.nodes.items is.order (length-lists hierarchy.calls.items) is.longest refl
