use Rattle.std.proofs.Common.{◌++◌, map, take, length, subst, sym, ap, ◌∙◌}
use Rattle.std.proofs.lemmas.List.{length-map, take-append-drop}
use Rattle.wiring.specs.Wiring.{In}
use Rattle.graphs.specs.Graphs.{lists_of}
use Rattle.design_cycles.specs.Nodes.{value_node}
use Rattle.design_cycles.specs.BitSets.{AreBitSets}
use Rattle.design_cycles.proofs.Chunks.{listed_none, listed_more}
use Rattle.design_cycles.proofs.bit_set_lists.bit_set_lists.Goals as goal

pub loop-left-init : goal.loop-left-init
loop-left-init c =
    listed_none (lists_of c.args.graph.now) c.args.inputs.now (map (value_node c.args.layout.now) c.args.values.now) (length c.args.values.now) (lists_of c.in_ok-lists.lists.items)
    (sym (length-map c.args.values.now (value_node c.args.layout.now))) c.in_ok-lists.ensures

pub bit_sets_of-requires-clause-all : goal.bit_sets_of-requires-clause-all
bit_sets_of-requires-clause-all c = λ v below. subst (In v) (sym c.as_slice.ensures.value) (c.in_ok-all.ensures v below)

pub loop-left-preserved : goal.loop-left-preserved
loop-left-preserved c =
    let f = c.split_at.ensures.front in
    let b = c.split_at.ensures.back in
    listed_more (lists_of c.args.graph.now) c.args.inputs.now (map (value_node c.args.layout.now) c.args.values.now) c.loop-left.left.now c.split_at.result.0.now c.split_at.result.1.now c.loop-left.first
    (lists_of c.loop-left.lists.items) (lists_of c.push_bit_sets.new.lists.items) c.as_slice-in-loop-left.result.now c.loop-left.invariant
    (sym (ap (λ xs. xs ++ c.split_at.result.1.now) f ∙ ap (λ xs. take c.min.result c.loop-left.left.now ++ xs) b ∙ take-append-drop c.min.result c.loop-left.left.now))
    (subst (AreBitSets (lists_of c.args.graph.now) c.split_at.result.0.now) (sym c.as_slice-in-loop-left.ensures.value) c.in_ok-bit_sets.ensures) c.in_ok-push_bit_sets.ensures
