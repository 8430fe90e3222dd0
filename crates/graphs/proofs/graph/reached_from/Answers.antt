use Rattle.std.proofs.Common.{◌<◌, ◌∷◌, length, arith, subst, inl, refl, []}
use Rattle.wiring.proofs.Members.{In-append_right}
use Rattle.graphs.specs.Graphs.{lists_of}
use Rattle.graphs.proofs.Marking.{IsSearching, searching_begins, searching_goes, search_ends, length-lists}
use Rattle.graphs.proofs.graph.reached_from.Goals as goal
use Rattle.std.proofs.lemmas.List.{nil_from_length}

pub loop-node-init : goal.loop-node-init
loop-node-init c =
    searching_begins c.args.graph.now c.args.starts.now c.in_ok-marks.marks.items c.mark_all.new.marks c.in_ok-marks.marks.len c.in_ok-marks.marks.ok.0 (cc)
    (length c.args.graph.now) c.deref_mut.result.now c.new-waiting.result.items c.mark_all.new.waiting.items
    (omega (arith, c.in_ok-marks.ensures.len, c.in_ok-marks.marks.ok.0)) (c.in_ok-marks.ensures.items_if_clones_equal (λ y e. e)) c.new-waiting.ensures.items
    c.deref_mut.ensures.value c.in_ok-mark_all.ensures

pub bounds-graph-node : goal.bounds-graph-node
bounds-graph-node c =
    let search = subst (IsSearching (lists_of c.args.graph.now) c.args.starts.now c.loop-node.marks.items) c.in-Some.ensures.items c.loop-node.invariant in
    let there = search.within c.in-Some.node (In-append_right c.in-Some.node c.pop.new.self.items (c.in-Some.node ∷ []) (inl refl)) in
    subst (λ n. c.in-Some.node < n) (length-lists c.args.graph.now) there.0

pub loop-node-preserved : goal.loop-node-preserved
loop-node-preserved c =
    let search = subst (IsSearching (lists_of c.args.graph.now) c.args.starts.now c.loop-node.marks.items) c.in-Some.ensures.items c.loop-node.invariant in
    let there = search.within c.in-Some.node (In-append_right c.in-Some.node c.pop.new.self.items (c.in-Some.node ∷ []) (inl refl)) in
    searching_goes c.args.graph.now c.args.starts.now c.loop-node.marks.items c.mark_all-in-Some.new.marks c.loop-node.marks.len c.loop-node.marks.ok.0 (cc)
    c.as_slice.result.now c.deref_mut-in-Some.result.now c.loop-node.waiting.items c.pop.new.self.items c.mark_all-in-Some.new.waiting.items c.in-Some.node c.index-graph-node.result
    (subst (λ n. c.in-Some.node < n) (length-lists c.args.graph.now) there.0) c.as_slice.ensures.value c.deref_mut-in-Some.ensures.value c.in-Some.ensures.items
    c.loop-node.invariant c.in_ok-mark_all-2.ensures

pub returns : goal.returns
returns c =
    search_ends (lists_of c.args.graph.now) c.args.starts.now c.loop-node.marks.items
    (subst (IsSearching (lists_of c.args.graph.now) c.args.starts.now c.loop-node.marks.items)
    (nil_from_length c.loop-node.waiting.items (omega (arith, c.in_default.ensures.cases, c.loop-node.waiting.ok.0))) c.loop-node.invariant)
