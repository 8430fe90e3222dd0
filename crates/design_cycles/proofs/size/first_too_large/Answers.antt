use Rattle.std.proofs.Common.{length, arith}
use Rattle.ir_store.specs.Designs.{modules_of}
use Rattle.graphs.specs.Graphs.{lists_of}
use Rattle.graphs.proofs.Marking.{length-lists}
use Rattle.design_cycles.proofs.Sizing.{whole_order, large_answer}
use Rattle.design_cycles.proofs.size.first_too_large.Goals as goal

pub module_weights-requires-clause-whole : goal.module_weights-requires-clause-whole
module_weights-requires-clause-whole c =
    whole_order (modules_of c.args.design.now) 18446744073709551615 c.requires.distinct c.requires.finite (lists_of c.args.hierarchy.now.calls.items) (length c.args.hierarchy.now.calls.items)
    c.requires.hierarchy.calls c.args.hierarchy.now.order.placed.items c.args.hierarchy.now.order.nodes.items c.as_slice.result.now c.requires.hierarchy.order
    (length-lists c.args.hierarchy.now.calls.items) c.requires.hierarchy.longest c.as_slice.ensures.value

pub returns : goal.returns
returns c =
    large_answer (modules_of c.args.design.now) 18446744073709551615 (omega arith) c.in_ok-weights.weights.items c.as_slice-2.result.now c.as_slice-2.ensures.value
    c.in_ok-weights.ensures.each c.in_ok-weights.ensures.count c.first_above.result c.first_above.ensures
