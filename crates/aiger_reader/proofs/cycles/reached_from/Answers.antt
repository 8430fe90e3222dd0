use Rattle.std.proofs.Common.{◌≡◌, ◌<◌, [], ◌∷◌, length, arith, subst, inl, refl}
use Rattle.std.proofs.lemmas.List.{nil_from_length}
use Rattle.wiring.proofs.Members.{In-append_right}
use Rattle.graphs.proofs.Marking.{IsSearching, search_ends}
use Rattle.aiger_reader.specs.Searched.{lists_in}
use Rattle.aiger_reader.proofs.Searching.{searching_begins, searching_goes, length-lists}
use Rattle.aiger_reader.proofs.cycles.reached_from.Goals as goal

pub loop-place-init : goal.loop-place-init
loop-place-init c =
    searching_begins c.args.needs.now c.args.starts.now c.in_ok-marks.marks.items c.mark_all.new.marks c.in_ok-marks.marks.len c.in_ok-marks.marks.ok.0 (cc)
    (length c.args.needs.now) c.deref_mut.result.now c.new-waiting.result.items c.mark_all.new.waiting.items
    (omega (arith, c.in_ok-marks.ensures.len, c.in_ok-marks.marks.ok.0)) (c.in_ok-marks.ensures.items_if_clones_equal (λ y e. e)) c.new-waiting.ensures.items
    c.deref_mut.ensures.value c.in_ok-mark_all.ensures

pub bounds-needs-place : goal.bounds-needs-place
bounds-needs-place c =
    let search = subst (IsSearching (lists_in c.args.needs.now) c.args.starts.now c.loop-place.marks.items) c.in-Some.ensures.items c.loop-place.invariant in
    let there = search.within c.in-Some.place (In-append_right c.in-Some.place c.pop.new.self.items (c.in-Some.place ∷ []) (inl refl)) in
    subst (λ n. c.in-Some.place < n) (length-lists c.args.needs.now) there.0

pub loop-place-preserved : goal.loop-place-preserved
loop-place-preserved c =
    let search = subst (IsSearching (lists_in c.args.needs.now) c.args.starts.now c.loop-place.marks.items) c.in-Some.ensures.items c.loop-place.invariant in
    let there = search.within c.in-Some.place (In-append_right c.in-Some.place c.pop.new.self.items (c.in-Some.place ∷ []) (inl refl)) in
    searching_goes c.args.needs.now c.args.starts.now c.loop-place.marks.items c.mark_all-in-Some.new.marks c.loop-place.marks.len c.loop-place.marks.ok.0 (cc)
    _ c.deref_mut-in-Some.result.now c.loop-place.waiting.items c.pop.new.self.items c.mark_all-in-Some.new.waiting.items c.in-Some.place (record { left = 0; right = 0 })
    (subst (λ n. c.in-Some.place < n) (length-lists c.args.needs.now) there.0) refl c.deref_mut-in-Some.ensures.value c.in-Some.ensures.items
    c.loop-place.invariant c.in_ok-mark_all-2.ensures

pub returns : goal.returns
returns c =
    search_ends (lists_in c.args.needs.now) c.args.starts.now c.loop-place.marks.items
    (subst (IsSearching (lists_in c.args.needs.now) c.args.starts.now c.loop-place.marks.items)
    (nil_from_length c.loop-place.waiting.items (omega (arith, c.in_default.ensures.cases, c.loop-place.waiting.ok.0))) c.loop-place.invariant)
