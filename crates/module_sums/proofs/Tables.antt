-- What is kept of modules one after another, each after those that it instances, is what they have.
use Rattle.std.proofs.Common.{◌≡◌, ◌⊎◌, ℕ, zero, suc, ◌+◌, ◌<◌, ◌≤◌, ◌≢◌, Bool, true, false, eqb, List, [], ◌∷◌, length, map, take, get_or, set, slice_get, Option, Some, None, refl, sym, ap, subst, ◌∙◌, inl, inr, arith}
use Rattle.std.proofs.lemmas.List.{take_more, length-map, get_or-set_same, get_or-set_other}
use Rattle.std.proofs.lemmas.Bool.{eqb-true, eqb-false}
use Rattle.std.proofs.lemmas.Option.{slice_get_within, slice_get-get_or}
use Rattle.wiring.specs.Wiring.{In, IsHeight, greatest}
use Rattle.wiring.proofs.Members.{In-append_cases}
use Rattle.wiring.proofs.Heights.{FallsAlong-height, height-le}
use Rattle.hw_model.specs.Types.{Name}
use Rattle.hw_model.specs.Design.{Module, Design, find_module}
use Rattle.hw_model.specs.Sound.{body_of}
use Rattle.hw_model.specs.Hierarchy.{callee_symbols, calls, HasNoRecursion}
use Rattle.hw_model.proofs.Content.{call_heights}
use Rattle.hw_model.proofs.Finite.{calls_within}
use Rattle.ir_store.specs.Symbols.{symbol_position}
use Rattle.graphs.specs.Graphs.{edges}
use Rattle.design_cycles.specs.Asked.{HasDistinctSymbols}
use Rattle.design_cycles.specs.Calls.{symbols_in, numbers_of, call_lists}
use Rattle.design_cycles.proofs.Callees.{call_edges, position_found, number_found, In-numbers, found_at}
use Rattle.module_sums.specs.Sums.{to_depth, summed, kept, kept_by, IsBelow}

module _ {A : Type 0} (of : (Name → A) → Option Module → A) (none : A)
    (depends : (f g : Name → A) (x : Option Module) → ((s : Name) → In s (callee_symbols (body_of x)) → f s ≡ g s) → of f x ≡ of g x)
    (absent : (f : Name → A) → of f None ≡ none) where
  -- ---- the depth

  module _ (d : Design) (h : Name → ℕ) (height : IsHeight (calls d) h) where
    steady : (m n : ℕ) (s : Name) → h s ≤ m → h s ≤ n → to_depth of none m d s ≡ to_depth of none n d s
    steady zero n s low also = let positive : h s ≡ suc (greatest (map h (calls d s))) = height s in absurd (omega arith)
    steady (suc m) zero s low also = let positive : h s ≡ suc (greatest (map h (calls d s))) = height s in absurd (omega arith)
    steady (suc m) (suc n) s low also =
        depends (to_depth of none m d) (to_depth of none n d) (find_module d s)
        (λ t named. let lower : h t < h s = FallsAlong-height (calls d) h height s t named in steady m n t (omega arith) (omega arith))

    opened : (s : Name) → summed of none d s ≡ of (summed of none d) (find_module d s)
    opened s =
        depends (to_depth of none (length d) d) (summed of none d) (find_module d s)
        (λ t named.
        let lower : h t < h s = FallsAlong-height (calls d) h height s t named in
        let bound : h s ≤ suc (length d) = rank s in
        steady (length d) (suc (length d)) t (omega arith) (omega arith))
      where
        rank : (t : Name) → h t ≤ suc (length d)
        rank t = subst (λ k. h t ≤ suc k) (length-map d (λ (m : Module). m.symbol)) (height-le (calls d) (map (λ (m : Module). m.symbol) d) (calls_within d) h height t)

  -- what a module has, by what those have that it instances
  pub sum_opens : (d : Design) → HasNoRecursion d → (s : Name) → summed of none d s ≡ of (summed of none d) (find_module d s)
  sum_opens d finite s = let high = call_heights d finite in opened d high.0 high.1 s

  -- ---- one more module in an order

  -- what module i has is kept
  abbrev pub IsKept : Design → List A → ℕ → Type 0
  IsKept d values i = (one : Module) → slice_get d i ≡ Some one → get_or values i none ≡ summed of none d one.symbol

  module _ (d : Design) (distinct : HasDistinctSymbols d) (finite : HasNoRecursion d) where
    no_module : (s : Name) → symbol_position s (symbols_in d) ≡ None → find_module d s ≡ None
    no_module s nowhere = go (find_module d s) refl
      where
        go : (o : Option Module) → find_module d s ≡ o → find_module d s ≡ None
        go None is = is
        go (Some x) is = let has = number_found d s x is in let never : Some has.0 ≡ None = sym has.1 ∙ nowhere in cc

    kept_module : (values : List A) (i : ℕ) (one : Module) (w : A) → slice_get d i ≡ Some one → ((t : ℕ) → In t (edges (call_lists d) i) → t < length (call_lists d) → IsKept d values t)
        → w ≡ of (kept_by none (symbols_in d) values) (slice_get d i) → w ≡ summed of none d one.symbol
    kept_module values i one w at inner is =
        is ∙ ap (of (kept_by none (symbols_in d) values)) at
        ∙ depends (kept_by none (symbols_in d) values) (summed of none d) (Some one) agree
        ∙ ap (of (summed of none d)) (sym (found_at d distinct i one at).1) ∙ sym (sum_opens d finite one.symbol)
      where
        agree : (s : Name) → In s (callee_symbols one.body) → kept_by none (symbols_in d) values s ≡ summed of none d s
        agree s named = go (symbol_position s (symbols_in d)) refl
          where
            go : (x : Option ℕ) → symbol_position s (symbols_in d) ≡ x → kept none values x ≡ summed of none d s
            go None nowhere = sym (sum_opens d finite s ∙ ap (of (summed of none d)) (no_module s nowhere) ∙ absent (summed of none d))
            go (Some t) place =
                let there = position_found d s t place in
                let below : t < length (call_lists d) =
                (let size : length (call_lists d) ≡ length d = length-map d (λ (x : Module). numbers_of (symbols_in d) (callee_symbols x.body)) in
                let bound : t < length d = slice_get_within d t there.0 there.1 in omega arith) in
                let edge : In t (edges (call_lists d) i) = subst (In t) (sym (call_edges d i one at)) (In-numbers (symbols_in d) s t (callee_symbols one.body) named place) in
                inner t edge below there.0 there.1 ∙ ap (summed of none d) there.2

    pub kept_more : (top : ℕ) (values : List A) (order : List ℕ) (k i : ℕ) (w : A) → k < length order → i ≡ get_or order k 0 → i < length values → IsBelow (call_lists d) top order
        → ((v : ℕ) → In v (take k order) → IsKept d values v) → w ≡ of (kept_by none (symbols_in d) values) (slice_get d i)
        → (v : ℕ) → In v (take (k + 1) order) → IsKept d (set values i w) v
    kept_more top values order k i w below is within whole before made v here one at = by_number (eqb v i) refl
      where
        there : slice_get order k ≡ Some i
        there = slice_get-get_or order k 0 below ∙ ap Some (sym is)

        by_number : (b : Bool) → eqb v i ≡ b → get_or (set values i w) v none ≡ summed of none d one.symbol
        by_number true same =
            let e : v ≡ i = eqb-true v i same in
            ap (λ n. get_or (set values i w) n none) e ∙ get_or-set_same values i w none within
            ∙ kept_module values i one w (ap (slice_get d) (sym e) ∙ at) (λ t edge near. before t (whole.following k i t there edge near)) made
        by_number false other =
            let apart : v ≢ i = eqb-false v i other in
            get_or-set_other values i v w none apart ∙ before v (earlier (In-append_cases v (take k order) (get_or order k 0 ∷ []) (subst (In v) (take_more order k 0 below) here))) one at
          where
            earlier : In v (take k order) ⊎ In v (get_or order k 0 ∷ []) → In v (take k order)
            earlier (inl prefix) = prefix
            earlier (inr (inl last)) = absurd (eqb-false v i other (last ∙ sym is))
            earlier (inr (inr never)) = absurd never
