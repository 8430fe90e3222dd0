use Rattle.std.proofs.Common.{map, Some, option_map, ap, sym, ◌∙◌, arith}
use Rattle.std.proofs.lemmas.List.{length-map}
use Rattle.std.proofs.lemmas.Option.{slice_get-map, slice_get-get_or}
use Rattle.ir_store.specs.declared.operation.Value.TheVariants.{Port}
use Rattle.graphs.specs.Graphs.{lists_of}
use Rattle.design_cycles.specs.Nodes.{value_node}
use Rattle.design_cycles.proofs.Chunks.{added_step, added_all}
use Rattle.graphs.proofs.Marking.{length-lists}
use Rattle.design_cycles.proofs.bit_set_lists.push_bit_sets.Goals as goal

pub loop-k-preserved : goal.loop-k-preserved
loop-k-preserved c =
    let e = c.node_of.ensures in
    let f = c.index_mut-list.ensures.value in
    added_step c.args.bit_sets.now (map (value_node c.args.layout.now) c.args.values.now) c.args.first c.args.count c.loop-k.k c.bit_set_of-bit_set.result c.node_of.result (lists_of c.args.lists.now.items)
    c.loop-k.lists.items c.index_mut-list.result.now (record { nodes = c.push_bits.new.numbers }) c.loop-k.invariant
    (omega (arith, c.loop-k.invariant.size, length-lists c.loop-k.lists.items, length-lists c.args.lists.now.items, c.requires.each)) f
    (slice_get-map (value_node c.args.layout.now) c.args.values.now c.loop-k.k ∙ ap (option_map (value_node c.args.layout.now)) (slice_get-get_or c.args.values.now c.loop-k.k (Port 0) c.loop-k-test.true) ∙ ap Some (sym e))
    c.bit_set_of-bit_set.ensures c.in_ok-push_bits.ensures

pub returns : goal.returns
returns c =
    added_all c.args.bit_sets.now (map (value_node c.args.layout.now) c.args.values.now) c.args.first c.args.count c.loop-k.k (lists_of c.args.lists.now.items) (lists_of c.loop-k.lists.items)
    (omega (arith, length-map c.args.values.now (value_node c.args.layout.now), c.loop-k-test.false)) c.loop-k.invariant
