-- Modules get their flat bodies in an order in which each stands after those that it instances.
use Rattle.std.proofs.Common.{◌≡◌, ℕ, ◌+◌, ◌<◌, ◌≤◌, Bool, true, false, cond, List, [], ◌∷◌, length, take, set, get_or, replicate, Some, slice_get, refl, sym, ap, subst, ◌∙◌, ◌⊎◌, inl, inr}
use Rattle.std.proofs.lemmas.List.{length-map, length-replicate, take_more, take_all}
use Rattle.std.proofs.lemmas.Option.{slice_get_within, slice_get-get_or}
use Rattle.wiring.specs.Wiring.{In}
use Rattle.wiring.proofs.Lists.{slice_get_some}
use Rattle.wiring.proofs.Members.{In-append_cases, In-slice_get}
use Rattle.graphs.specs.Graphs.{has_mark}
use Rattle.graphs.proofs.Marking.{marked_same, marked_kept, none_marked}
use Rattle.hw_model.specs.Design.{Module, Design}
use Rattle.hw_model.specs.Hierarchy.{callee_symbols}
use Rattle.edit_laws.specs.Laws.{with_body}
use Rattle.design_cycles.specs.Asked.{HasDistinctSymbols}
use Rattle.design_cycles.specs.Calls.{symbols_in, numbers_of, call_lists}
use Rattle.design_cycles.specs.Weighing.{IsWhole}
use Rattle.design_cycles.proofs.Callees.{call_edges, In-numbers, found_at}
use Rattle.op_verifier.proofs.Distinct.{distinct_symbols}
use Rattle.acceptance_laws.specs.Keeps.{IsFit}
use Rattle.inline_pass.specs.FlatBodies.{HasInlinedAt}
use Rattle.inline_pass.specs.Flattening.{inline_all, private_callee, flat_design}
use Rattle.inline_pass.proofs.FlatteningDepth.{flat_module}
use Rattle.inline_pass.proofs.FlatteningProgress.{IsFlattening, AreCalleesMarked, flattening_begins, flattening_goes_on, flattening_ends, flattening_again}

-- some modules have their flat bodies, among them those of the numbers
pub record AreFlat (d e : Design) (numbers : List ℕ) : Type 0 where
  pub marks : List Bool
  pub so_far : IsFlattening d e marks
  pub marked : (v : ℕ) → In v numbers → has_mark marks v ≡ true

pub none_flat : (d : Design) → IsFit d → AreFlat d d []
none_flat d fit = record {
  marks = replicate (length d) false;
  so_far = flattening_begins d (replicate (length d) false) fit (length-replicate (length d) false) (λ k. none_marked (length d) k);
  marked = λ v here. absurd here;
}

lists_length : (d : Design) → length (call_lists d) ≡ length d
lists_length d = length-map d (λ (m : Module). numbers_of (symbols_in d) (callee_symbols m.body))

module _ (d : Design) (fit : IsFit d) (order : List ℕ) (whole : IsWhole (call_lists d) order) where
  distinct : HasDistinctSymbols d
  distinct = distinct_symbols d fit.unrefused

  -- the next one in the order
  module _ (i : ℕ) (below : i < length order) (e : Design) (are : AreFlat d e (take i order)) where
    next : ℕ
    next = get_or order i 0

    there : slice_get order i ≡ Some next
    unfolding next
    there = slice_get-get_or order i 0 below

    within : next < length d
    within = subst (λ n. next < n) (lists_length d) (whole.within next (In-slice_get next order i there))

    pub next_within : get_or order i 0 < length e
    unfolding next
    next_within = subst (λ n. next < n) (sym are.so_far.size) within

    callees : (m : Module) → slice_get d next ≡ Some m → AreCalleesMarked d are.marks m
    callees m at j c position named =
        are.marked j
        (whole.following i next j there
        (subst (In j) (sym (call_edges d next m at)) (In-numbers (symbols_in d) c.symbol j (callee_symbols m.body) named (found_at d distinct j c position).0))
        (subst (λ n. j < n) (sym (lists_length d)) (slice_get_within d j c position)))

    one_more : (marks : List Bool) → ((v : ℕ) → has_mark are.marks v ≡ true → has_mark marks v ≡ true) → has_mark marks next ≡ true
        → (v : ℕ) → In v (take (i + 1) order) → has_mark marks v ≡ true
    unfolding next
    one_more marks kept here v named = go (In-append_cases v (take i order) (next ∷ []) (subst (In v) (take_more order i 0 below) named))
      where
        go : In v (take i order) ⊎ In v (next ∷ []) → has_mark marks v ≡ true
        go (inl before) = kept v (are.marked v before)
        go (inr (inl same)) = ap (has_mark marks) same ∙ here
        go (inr (inr never)) = absurd never

    pub one_more_flat : (f : Design) → HasInlinedAt (get_or order i 0) e f → AreFlat d f (take (i + 1) order)
    unfolding next
    one_more_flat f has = go (has_mark are.marks next) refl
      where
        found : (m : Module) × (slice_get d next ≡ Some m)
        found = slice_get_some d next within

        go : (b : Bool) → has_mark are.marks next ≡ b → AreFlat d f (take (i + 1) order)
        go false unset =
            let was : slice_get e next ≡ Some found.0 = are.so_far.each next found.0 found.1 ∙ ap (λ b. Some (cond b (flat_module d found.0) found.0)) unset in
            let both : Some has.owner ≡ Some found.0 = sym has.there ∙ was in
            let same : has.owner ≡ found.0 = cc in
            let inside : next < length are.marks = subst (λ n. next < n) (sym are.so_far.count) within in
            record {
              marks = set are.marks next true;
              so_far = subst (λ x. IsFlattening d x (set are.marks next true))
                  (sym (has.is ∙ ap (λ (m : Module). with_body e next m (inline_all (private_callee e) m.body)) same))
                  (flattening_goes_on d e are.marks fit are.so_far next found.0 found.1 unset (callees found.0 found.1));
              marked = one_more (set are.marks next true) (λ v mark. marked_kept are.marks next v inside mark) (marked_same are.marks next inside);
            }
        go true mark =
            let now : slice_get e next ≡ Some (flat_module d found.0) = are.so_far.each next found.0 found.1 ∙ ap (λ b. Some (cond b (flat_module d found.0) found.0)) mark in
            let both : Some has.owner ≡ Some (flat_module d found.0) = sym has.there ∙ now in
            let same : has.owner ≡ flat_module d found.0 = cc in
            record {
              marks = are.marks;
              so_far = subst (λ x. IsFlattening d x are.marks)
                  (sym (has.is ∙ ap (λ (m : Module). with_body e next m (inline_all (private_callee e) m.body)) same ∙ flattening_again d e are.marks fit are.so_far next found.0 found.1 mark))
                  are.so_far;
              marked = one_more are.marks (λ v is. is) mark;
            }

  -- all of them
  pub all_flat : (i : ℕ) → length order ≤ i → (e : Design) → AreFlat d e (take i order) → e ≡ flat_design d
  all_flat i past e are =
      flattening_ends d e are.marks fit are.so_far
      (λ k m at.
      are.marked k (subst (In k) (sym (take_all i order past)) (whole.all k (subst (λ n. k < n) (sym (lists_length d)) (slice_get_within d k m at)))))
