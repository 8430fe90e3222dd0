-- Summaries of the modules of a design, kept by their numbers.
use Rattle.std.proofs.Common.{◌≡◌, ◌⊎◌, ℕ, zero, suc, ◌+◌, ◌<◌, ◌≤◌, ◌≢◌, Bool, true, false, eqb, List, [], ◌∷◌, length, map, take, get_or, set, slice_get, Option, Some, None, refl, sym, ap, ap₂, subst, ◌∙◌, inl, inr, arith, length-set}
use Rattle.std.proofs.lemmas.Bool.{eqb-true, eqb-false}
use Rattle.std.proofs.lemmas.List.{take_all, take_more, length-map}
use Rattle.std.proofs.lemmas.Option.{slice_get_within, slice_get-get_or}
use Rattle.wiring.specs.Wiring.{In}
use Rattle.wiring.proofs.Members.{In-append_cases}
use Rattle.hw_model.specs.Types.{Name}
use Rattle.hw_model.specs.Design.{Ref, Op, Module, Design, find_module, output_refs}
use Rattle.hw_model.specs.Sound.{body_of, ports_of}
use Rattle.hw_model.specs.Hierarchy.{callee_symbols, calls}
use Rattle.ir_store.specs.declared.design.Module.{Module as CodeModule}
use Rattle.ir_store.specs.declared.operation.Value.{Value}
use Rattle.ir_store.specs.Symbols.{symbol_position}
use Rattle.ir_store.specs.Bodies.{ids_of, ops_of}
use Rattle.ir_store.specs.Numbered.{position_of, ref_by, ops_by_position}
use Rattle.ir_store.specs.Designs.{StoredModule, module_of, numbered_module, port_of}
use Rattle.design_cycles.specs.declared.layout.Layout.{Layout}
use Rattle.design_cycles.specs.declared.layout.Summary.{Summary}
use Rattle.design_cycles.specs.Asked.{HasDistinctSymbols}
use Rattle.design_cycles.specs.Calls.{symbols_in, call_lists}
use Rattle.graphs.specs.Graphs.{edges, has_mark}
use Rattle.design_cycles.specs.Graphs.{AreCalled}
use Rattle.design_cycles.specs.Local.{IsSummary}
use Rattle.design_cycles.specs.Nodes.{bit_sets_of, bit_sets_at, bit_sets_by, sizes_in, body_lists, node_ref, value_node, table_by, IsLayout}
use Rattle.design_cycles.specs.Positions.{symbol_of, symbol_at}
use Rattle.design_cycles.specs.Summing.{inputs_from, AreOutputs, IsSummed, KnowsCallees}
use Rattle.design_cycles.specs.Weighing.{IsWhole}
use Rattle.design_cycles.proofs.Callees.{call_edges, position_found, number_found, In-numbers, found_at}
use Rattle.design_cycles.proofs.NodeValues.{value_is}
use Rattle.design_cycles.proofs.Pushing.{sizes_count}
use Rattle.ir_store.proofs.StoredModules.{stored_at}
use Rattle.design_cycles.proofs.Returning.{symbols_stored}
use Rattle.design_cycles.proofs.Sizing.{count_modules}
use Rattle.design_cycles.proofs.Summed.{sums_up}

-- ---- what is known of the modules that a module instances

module _ (d : Design) (summaries : List Summary) where
  -- a module that is not there has no outputs
  absent_summed : (s : Name) → find_module d s ≡ None → IsSummary d (λ _ k. edges (bit_sets_at summaries None) k) s
  absent_summed s none = record {
    sound = λ k x here. absurd here;
    complete = λ k x feeds. (let e : None ≡ Some feeds.given = subst (λ o. slice_get (output_refs (body_of o)) k ≡ Some feeds.given) none feeds.gives in absurd (none_some e));
  }
    where
      none_some : {r : Ref} → None ≡ Some r → ⊥
      none_some e = cc

  find_absent : (s : Name) → symbol_position s (symbols_in d) ≡ None → find_module d s ≡ None
  find_absent s none = go (find_module d s) refl
    where
      go : (o : Option Module) → find_module d s ≡ o → find_module d s ≡ None
      go None is = is
      go (Some m) is = let has = number_found d s m is in let never : Some has.0 ≡ None = sym has.1 ∙ none in cc

  pub known_by : (top : Name)
      → ((s : Name) (t : ℕ) → In s (calls d top) → symbol_position s (symbols_in d) ≡ Some t → IsSummed d (bit_sets_of (slice_get summaries t)) t)
      → KnowsCallees d (bit_sets_by (symbols_in d) summaries) top
  known_by top each s named = go (symbol_position s (symbols_in d)) refl
    where
      shown : IsSummary d (λ _ k. edges (bit_sets_at summaries (symbol_position s (symbols_in d))) k) s → IsSummary d (table_by (bit_sets_by (symbols_in d) summaries)) s
      shown is = record { sound = λ k x here. is.sound k x here; complete = λ k x feeds. is.complete k x feeds }

      go : (o : Option ℕ) → symbol_position s (symbols_in d) ≡ o → IsSummary d (table_by (bit_sets_by (symbols_in d) summaries)) s
      go None none = shown (subst (λ o. IsSummary d (λ _ k. edges (bit_sets_at summaries o) k) s) (sym none) (absent_summed s (find_absent s none)))
      go (Some t) position =
          let there = position_found d s t position in
          let summed : IsSummary d (λ _ k. edges (bit_sets_at summaries (Some t)) k) there.0.symbol = each s t named position there.0 there.1 in
          shown (subst (λ o. IsSummary d (λ _ k. edges (bit_sets_at summaries o) k) s) (sym position) (subst (IsSummary d (λ _ k. edges (bit_sets_at summaries (Some t)) k)) there.2 summed))

-- a module that is instanced, by number, and one that instances it
pub called_edge : (d : Design) (top s : Name) (t : ℕ) → In s (calls d top) → symbol_position s (symbols_in d) ≡ Some t
    → (i : ℕ) × (symbol_position top (symbols_in d) ≡ Some i) × In t (edges (call_lists d) i)
called_edge d top s t named position = go (find_module d top) refl named
  where
    go : (o : Option Module) → find_module d top ≡ o → In s (callee_symbols (body_of o))
        → (i : ℕ) × (symbol_position top (symbols_in d) ≡ Some i) × In t (edges (call_lists d) i)
    go None is never = absurd never
    go (Some m) is here =
        let at = number_found d top m is in
        let there = position_found d top at.0 at.1 in
        let same : Some there.0 ≡ Some m = sym there.3 ∙ is in
        let module_is : there.0 ≡ m = cc in
        (at.0, at.1, subst (In t) (sym (call_edges d at.0 m (there.1 ∙ ap Some module_is))) (In-numbers (symbols_in d) s t (callee_symbols m.body) here position))

module _ (modules : List StoredModule) (distinct : HasDistinctSymbols (map numbered_module modules)) where
  abbrev design : Design
  design = map numbered_module modules

  abbrev symbols : List Name
  symbols = map (λ (m : StoredModule). m.symbol) modules

  number_there : (s : Name) (t : ℕ) → symbol_position s (symbols_in design) ≡ Some t → t < length (call_lists design)
  number_there s t position =
      let there = position_found design s t position in
      let bound : t < length design = slice_get_within design t there.0 there.1 in
      let size : length design ≡ length modules = length-map modules numbered_module in
      let count : length (call_lists design) ≡ length modules = count_modules modules 0 in
      omega arith

  symbol_number : (i : ℕ) → i < length modules → symbol_position (symbol_at modules i) (symbols_in design) ≡ Some i
  symbol_number i below = go (slice_get modules i) refl
    where
      go : (o : Option StoredModule) → slice_get modules i ≡ o → symbol_position (symbol_of (slice_get modules i)) (symbols_in design) ≡ Some i
      go None none = absurd (nothing modules i below none)
        where
          nothing : (ms : List StoredModule) (k : ℕ) → k < length ms → slice_get ms k ≡ None → ⊥
          nothing [] k inside is = absurd (omega arith)
          nothing (m ∷ ms) zero inside is = cc
          nothing (m ∷ ms) (suc k) inside is = nothing ms k (omega arith) is
      go (Some m) at =
          ap (λ o. symbol_position (symbol_of o) (symbols_in design)) at ∙ (found_at design distinct i (numbered_module m) (stored_at modules i m (sym at))).0

  -- ---- the modules in order

  module _ (order : List ℕ) (marks : List Bool) (whole : IsWhole (call_lists design) order) (are : AreCalled (call_lists design) marks) where
    pub node_called : (k : ℕ) → get_or order k 0 < length modules → get_or order k 0 < length marks
    node_called k below =
        let count : length marks ≡ length (call_lists design) = are.count in
        let size : length (call_lists design) ≡ length modules = count_modules modules 0 in
        omega arith

    pub callees_known : (summaries slice : List Summary) (k : ℕ) → k < length order → get_or order k 0 < length modules → slice ≡ summaries
        → ((v : ℕ) → In v (take k order) → has_mark marks v ≡ true → IsSummed design (bit_sets_of (slice_get summaries v)) v)
        → KnowsCallees design (bit_sets_by symbols slice) (symbol_at modules (get_or order k 0))
    callees_known summaries slice k below within same before =
        subst (λ ss. KnowsCallees design (bit_sets_by ss slice) (symbol_at modules (get_or order k 0))) (sym (symbols_stored modules))
        (subst (λ ss. KnowsCallees design (bit_sets_by (symbols_in design) ss) (symbol_at modules (get_or order k 0))) (sym same)
        (known_by design summaries (symbol_at modules (get_or order k 0)) each))
      where
        each : (s : Name) (t : ℕ) → In s (calls design (symbol_at modules (get_or order k 0))) → symbol_position s (symbols_in design) ≡ Some t
            → IsSummed design (bit_sets_of (slice_get summaries t)) t
        each s t named position =
            let edge = called_edge design (symbol_at modules (get_or order k 0)) s t named position in
            let one : Some edge.0 ≡ Some (get_or order k 0) = sym edge.1 ∙ symbol_number (get_or order k 0) within in
            let number_is : edge.0 ≡ get_or order k 0 = cc in
            let there : t < length (call_lists design) = number_there s t position in
            let need : In t (edges (call_lists design) (get_or order k 0)) = subst (λ i. In t (edges (call_lists design) i)) number_is edge.2 in
            before t (whole.following k (get_or order k 0) t (slice_get-get_or order k 0 below) need there) (are.all (get_or order k 0) t need there)

    pub all_known : (summaries : List Summary) (k : ℕ) → length order ≤ k
        → ((v : ℕ) → In v (take k order) → has_mark marks v ≡ true → IsSummed design (bit_sets_of (slice_get summaries v)) v) → (top : Name)
        → KnowsCallees design (bit_sets_by symbols summaries) top
    all_known summaries k all before top =
        subst (λ ss. KnowsCallees design (bit_sets_by ss summaries) top) (sym (symbols_stored modules)) (known_by design summaries top each)
      where
        each : (s : Name) (t : ℕ) → In s (calls design top) → symbol_position s (symbols_in design) ≡ Some t
            → IsSummed design (bit_sets_of (slice_get summaries t)) t
        each s t named position =
            let edge = called_edge design top s t named position in
            let there : t < length (call_lists design) = number_there s t position in
            before t (subst (In t) (sym (take_all k order all)) (whole.all t there)) (are.all edge.0 t edge.2 there)

    -- one more module
    module _ (summaries : List Summary) (k : ℕ) (below : k < length order) (within : get_or order k 0 < length modules)
        (before : (length summaries ≡ length modules) × ((v : ℕ) → In v (take k order) → has_mark marks v ≡ true → IsSummed design (bit_sets_of (slice_get summaries v)) v)) where
      last_or_before : (v : ℕ) → In v (take (k + 1) order) → (v ≡ get_or order k 0) ⊎ In v (take k order)
      last_or_before v here = go (In-append_cases v (take k order) (get_or order k 0 ∷ []) (subst (In v) (take_more order k 0 below) here))
        where
          go : In v (take k order) ⊎ In v (get_or order k 0 ∷ []) → (v ≡ get_or order k 0) ⊎ In v (take k order)
          go (inl prefix) = inr prefix
          go (inr (inl last)) = inl last
          go (inr (inr never)) = absurd never

      pub step_skips : (new : List Summary) → has_mark marks (get_or order k 0) ≡ false → new ≡ summaries
          → (length new ≡ length modules) × ((v : ℕ) → In v (take (k + 1) order) → has_mark marks v ≡ true → IsSummed design (bit_sets_of (slice_get new v)) v)
      step_skips new uncalled same =
          (ap length same ∙ before.0, λ v here mark. subst (λ ss. IsSummed design (bit_sets_of (slice_get ss v)) v) (sym same) (go v (last_or_before v here) mark))
        where
          go : (v : ℕ) → (v ≡ get_or order k 0) ⊎ In v (take k order) → has_mark marks v ≡ true → IsSummed design (bit_sets_of (slice_get summaries v)) v
          go v (inl last) mark = let e : true ≡ false = sym mark ∙ ap (has_mark marks) last ∙ uncalled in absurd (true_false e)
            where
              true_false : true ≡ false → ⊥
              true_false e = cc
          go v (inr prefix) mark = before.1 v prefix mark

      pub step_sums : (new : List Summary) (one : Summary) → new ≡ set summaries (get_or order k 0) one
          → IsSummed design (bit_sets_of (Some one)) (get_or order k 0)
          → (length new ≡ length modules) × ((v : ℕ) → In v (take (k + 1) order) → has_mark marks v ≡ true → IsSummed design (bit_sets_of (slice_get new v)) v)
      step_sums new one now summed = (
        ap length now ∙ length-set summaries (get_or order k 0) one ∙ before.0,
        λ v here mark. subst (λ ss. IsSummed design (bit_sets_of (slice_get ss v)) v) (sym now) (go v (eqb v (get_or order k 0)) refl (last_or_before v here) mark),
      )
        where
          get_same : (xs : List Summary) (i : ℕ) → i < length xs → slice_get (set xs i one) i ≡ Some one
          get_same [] i inside = absurd (omega arith)
          get_same (x ∷ xs) zero inside = refl
          get_same (x ∷ xs) (suc i) inside = get_same xs i (omega arith)

          get_other : (xs : List Summary) (i v : ℕ) → v ≢ i → slice_get (set xs i one) v ≡ slice_get xs v
          get_other [] i v apart = refl
          get_other (x ∷ xs) zero zero apart = absurd (apart refl)
          get_other (x ∷ xs) zero (suc v) apart = refl
          get_other (x ∷ xs) (suc i) zero apart = refl
          get_other (x ∷ xs) (suc i) (suc v) apart = get_other xs i v (λ e. apart (ap suc e))

          inside : get_or order k 0 < length summaries
          inside = let size : length summaries ≡ length modules = before.0 in omega arith

          go : (v : ℕ) (b : Bool) → eqb v (get_or order k 0) ≡ b → (v ≡ get_or order k 0) ⊎ In v (take k order) → has_mark marks v ≡ true
              → IsSummed design (bit_sets_of (slice_get (set summaries (get_or order k 0) one) v)) v
          go v true same position mark =
              let e : v ≡ get_or order k 0 = eqb-true v (get_or order k 0) same in
              subst (λ i. IsSummed design (bit_sets_of (slice_get (set summaries (get_or order k 0) one) i)) i) (sym e)
              (subst (λ o. IsSummed design (bit_sets_of o) (get_or order k 0)) (sym (get_same summaries (get_or order k 0) inside)) summed)
          go v false other (inl last) mark = absurd (eqb-false v (get_or order k 0) other last)
          go v false other (inr prefix) mark =
              subst (λ o. IsSummed design (bit_sets_of o) v) (sym (get_other summaries (get_or order k 0) v (eqb-false v (get_or order k 0) other))) (before.1 v prefix mark)

  -- ---- one module

  module _ (i : ℕ) (m : CodeModule) (at : Some (module_of m) ≡ slice_get modules i) (summaries : List Summary) (inner : KnowsCallees design (bit_sets_by symbols summaries) (symbol_at modules i)) where
    abbrev one : Module
    one = numbered_module (module_of m)

    abbrev bit_sets : Name → List (List ℕ)
    bit_sets = bit_sets_by symbols summaries

    abbrev os : List Op
    os = ops_by_position (ops_of m.body)

    pub found : find_module design m.symbol ≡ Some one
    found = (found_at design distinct i one (stored_at modules i (module_of m) at)).1

    pub known_inner : KnowsCallees design bit_sets m.symbol
    known_inner = subst (KnowsCallees design bit_sets) (sym (ap symbol_of at)) inner

    port_count : length one.ports ≡ length m.ports.ports.items
    port_count = length-map m.ports.ports.items port_of

    pub lists_found : (lists : List (List ℕ)) → lists ≡ body_lists (length m.ports.ports.items) bit_sets os
        → lists ≡ body_lists (length (ports_of (find_module design m.symbol))) bit_sets (body_of (find_module design m.symbol))
    lists_found lists are = are ∙ ap (λ n. body_lists n bit_sets os) (sym port_count) ∙ ap (λ o. body_lists (length (ports_of o)) bit_sets (body_of o)) (sym found)

    pub summed_at : (layout : Layout) → IsLayout (length m.ports.ports.items) (sizes_in bit_sets os) (ids_of m.body) layout → (lists : List (List ℕ))
        → lists ≡ body_lists (length m.ports.ports.items) bit_sets os
        → (inputs : List ℕ) → inputs ≡ inputs_from 0 (map port_of m.ports.ports.items) → (values : List Value)
        → map (ref_by (position_of (ids_of m.body))) values ≡ output_refs os
        → (outputs : List (List ℕ)) → AreOutputs lists inputs (map (value_node layout) values) outputs → IsSummed design outputs i
    summed_at layout is lists are inputs from values given outputs sums other there =
        let same : Some one ≡ Some other = sym (stored_at modules i (module_of m) at) ∙ there in
        let other_is : one ≡ other = cc in
        subst (λ (x : Module). IsSummary design (λ _ k. edges outputs k) x.symbol) other_is
        (sums_up design m.symbol bit_sets known_inner (map (value_node layout) values) outputs
        (subst (λ ps. AreOutputs (body_lists (length (ports_of (find_module design m.symbol))) bit_sets (body_of (find_module design m.symbol))) ps (map (value_node layout) values) outputs)
        (from ∙ ap (λ o. inputs_from 0 (ports_of o)) (sym found))
        (subst (λ ls. AreOutputs ls inputs (map (value_node layout) values) outputs) (lists_found lists are) sums))
        refs)
      where
        nodes_are : (vs : List Value)
            → map (value_node layout) vs ≡ map (node_ref (length m.ports.ports.items) (sizes_in bit_sets os)) (map (ref_by (position_of (ids_of m.body))) vs)
        nodes_are [] = refl
        nodes_are (v ∷ vs) =
            ap₂ (λ x xs. x ∷ xs) (value_is (length m.ports.ports.items) (sizes_in bit_sets os) (ids_of m.body) layout is (sizes_count m.body bit_sets) v) (nodes_are vs)

        refs : map (value_node layout) values
            ≡ map (node_ref (length (ports_of (find_module design m.symbol))) (sizes_in bit_sets (body_of (find_module design m.symbol)))) (output_refs (body_of (find_module design m.symbol)))
        refs =
            nodes_are values ∙ ap (map (node_ref (length m.ports.ports.items) (sizes_in bit_sets os))) given
            ∙ ap (λ n. map (node_ref n (sizes_in bit_sets os)) (output_refs os)) (sym port_count)
            ∙ ap (λ o. map (node_ref (length (ports_of o)) (sizes_in bit_sets (body_of o))) (output_refs (body_of o))) (sym found)
