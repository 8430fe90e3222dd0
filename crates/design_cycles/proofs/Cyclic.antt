-- Operations with results that depend on themselves, as code finds them.
use Rattle.std.proofs.Common.{◌≡◌, ◌⊎◌, ◌↔◌, IsTrue, MatchBool, ℕ, zero, suc, ◌+◌, ◌<◌, ◌≤◌, Bool, true, false, List, [], ◌∷◌, length, map, get_or, slice_get, Option, Some, None, refl, sym, ap, subst, ◌∙◌, inl, inr, arith}
use Rattle.std.proofs.lemmas.List.{length-map}
use Rattle.std.proofs.lemmas.Option.{slice_get_within, slice_get-get_or}
use Rattle.wiring.specs.Wiring.{In, Depends}
use Rattle.hw_model.specs.Types.{Name}
use Rattle.hw_model.specs.Design.{Op, Module, Design, find_module}
use Rattle.hw_model.specs.Design.Ref.{result}
use Rattle.hw_model.specs.Flat.{net}
use Rattle.hw_model.specs.Meaning.{needs_of, needs, HasNoCycle, Depends as DependsOn}
use Rattle.hw_model.specs.Sound.{body_of, ports_of}
use Rattle.hw_model.specs.Hierarchy.{HasNoRecursion}
use Rattle.hw_model.proofs.Paths.{result_in, result_here}
use Rattle.ir_store.specs.declared.design.Module.{Module as CodeModule}
use Rattle.ir_store.specs.Bodies.{ids_of, ops_of}
use Rattle.ir_store.specs.Numbered.{ops_by_position}
use Rattle.ir_store.specs.Designs.{StoredModule, module_of, numbered_module}
use Rattle.graphs.specs.declared.graph.NodeList.{NodeList}
use Rattle.design_cycles.specs.declared.layout.Layout.{Layout}
use Rattle.design_cycles.specs.declared.layout.Span.{Span}
use Rattle.design_cycles.specs.declared.layout.Summary.{Summary}
use Rattle.design_cycles.specs.Asked.{HasDistinctSymbols, IsCyclicAt}
use Rattle.graphs.specs.Graphs.{lists_of, edges, has_mark, AreReached}
use Rattle.design_cycles.specs.Graphs.{ReturnsWithin}
use Rattle.design_cycles.specs.Nodes.{bit_sets_by, sizes_in, AreSpans, body_lists, IsLayout}
use Rattle.design_cycles.specs.Positions.{symbol_at}
use Rattle.design_cycles.specs.Summing.{KnowsCallees}
use Rattle.graphs.proofs.Marking.{lists_at, length-lists, edges_within}
use Rattle.ir_store.proofs.StoredModules.{stored_at}
use Rattle.design_cycles.proofs.Callees.{number_found, position_found, found_at}
use Rattle.design_cycles.proofs.Known.{found, known_inner, lists_found}
use Rattle.design_cycles.proofs.Summed.{returning_depends, depending_returns}
use Rattle.design_cycles.proofs.Inside.{no_cycle_anywhere}

-- ---- one node, by the marks of what its needs reach

pub marks_need : (graph : List NodeList) (v : ℕ) (x : NodeList) (starts : List ℕ) (marks : List Bool) (r : Bool) → v < length graph
    → starts ≡ (get_or graph v x).nodes.items
    → AreReached (lists_of graph) starts marks → r ≡ get_or marks v r
    → MatchBool r (Depends (edges (lists_of graph)) v v) (Depends (edges (lists_of graph)) v v → ⊥)
marks_need graph v x starts marks r below are reached at = by_mark r (at ∙ any_default marks v r false inside)
  where
    inside : v < length marks
    inside =
        let count : length marks ≡ length (lists_of graph) = reached.count in
        let size : length (lists_of graph) ≡ length graph = length-lists graph in
        omega arith

    any_default : (ms : List Bool) (k : ℕ) (d e : Bool) → k < length ms → get_or ms k d ≡ get_or ms k e
    any_default [] k d e within = absurd (omega arith)
    any_default (m ∷ ms) zero d e within = refl
    any_default (m ∷ ms) (suc k) d e within = any_default ms k d e (omega arith)

    starts_are : starts ≡ edges (lists_of graph) v
    starts_are = are ∙ sym (lists_at graph v x below)

    by_mark : (b : Bool) → b ≡ has_mark marks v → MatchBool b (Depends (edges (lists_of graph)) v v) (Depends (edges (lists_of graph)) v v → ⊥)
    by_mark true mark = let from = reached.sound v (sym mark) in (from.1, (from.0, subst (In from.0) starts_are from.2, from.3))
    by_mark false mark = λ around.
        let back : has_mark marks v ≡ true =
        reached.complete around.1.0 around.0 v (subst (In around.1.0) (sym starts_are) around.1.1) around.1.2 (let size : length (lists_of graph) ≡ length graph = length-lists graph in omega arith) in
        cc

-- ---- one more node

pub node_more : (lists : List (List ℕ)) (start node : ℕ) → ((v : ℕ) → start ≤ v → v < node → Depends (edges lists) v v → ⊥)
    → (Depends (edges lists) node node → ⊥)
    → (v : ℕ) → start ≤ v → v < node + 1 → Depends (edges lists) v v → ⊥
node_more lists start node before here v low below around = go (grind arith)
  where
    go : (v < node) ⊎ (v ≡ node) → ⊥
    go (inl lower) = before v low lower around
    go (inr same) = here (subst (λ z. Depends (edges lists) z z) same around)

pub closed_node : (graph : List NodeList) (placed : List Bool) (node : ℕ) (answer : Bool) → length placed ≡ length graph
    → ((v : ℕ) → has_mark placed v ≡ true → Depends (edges (lists_of graph)) v v → ⊥)
    → (IsTrue answer ↔ ((node < length placed) × (has_mark placed node ≡ false))) → answer ≡ false
    → Depends (edges (lists_of graph)) node node → ⊥
closed_node graph placed node answer count none says denied around = by_mark (has_mark placed node) refl
  where
    by_mark : (b : Bool) → has_mark placed node ≡ b → ⊥
    by_mark true is = none node is around
    by_mark false is =
        let bound : node < length (lists_of graph) = edges_within (lists_of graph) node around.1.0 around.1.1 in
        let size : length (lists_of graph) ≡ length graph = length-lists graph in
        let said : answer ≡ true = says.1 (omega arith, is) in
        absurd (apart (sym said ∙ denied))
      where
        apart : true ≡ false → ⊥
        apart e = cc

pub none_within : (lists : List (List ℕ)) (start size node : ℕ) → start + size ≤ node → ((v : ℕ) → start ≤ v → v < node → Depends (edges lists) v v → ⊥)
    → ReturnsWithin lists start size → ⊥
none_within lists start size node all none (v, low, high, around) = none v low (omega arith) around

-- ---- one operation of a module

module _ (modules : List StoredModule) (distinct : HasDistinctSymbols (map numbered_module modules)) (i : ℕ) (m : CodeModule) (at : Some (module_of m) ≡ slice_get modules i)
    (summaries : List Summary) (inner : KnowsCallees (map numbered_module modules) (bit_sets_by (map (λ (x : StoredModule). x.symbol) modules) summaries) (symbol_at modules i)) where
  abbrev design : Design
  design = map numbered_module modules

  abbrev bit_sets : Name → List (List ℕ)
  bit_sets = bit_sets_by (map (λ (x : StoredModule). x.symbol) modules) summaries

  abbrev os : List Op
  os = ops_by_position (ops_of m.body)

  module _ (layout : Layout) (is : IsLayout (length m.ports.ports.items) (sizes_in bit_sets os) (ids_of m.body) layout) (graph slice : List NodeList)
      (are : lists_of graph ≡ body_lists (length m.ports.ports.items) bit_sets os) (same : slice ≡ graph) where
    lists_are : lists_of slice ≡ body_lists (length (ports_of (find_module design m.symbol))) bit_sets (body_of (find_module design m.symbol))
    lists_are = ap lists_of same ∙ lists_found modules distinct i m at summaries inner (lists_of graph) are

    spans_are : AreSpans (length (ports_of (find_module design m.symbol))) (sizes_in bit_sets (body_of (find_module design m.symbol))) layout.spans.items
    spans_are =
        subst (λ o. AreSpans (length (ports_of o)) (sizes_in bit_sets (body_of o)) layout.spans.items) (sym (found modules distinct i m at summaries inner))
        (subst (λ n. AreSpans n (sizes_in bit_sets os) layout.spans.items) (sym (length-map m.ports.ports.items _)) is.spans)

    module _ (j : ℕ) (s : Span) (below : j < length layout.spans.items) (span : s ≡ get_or layout.spans.items j s) where
      span_at : slice_get layout.spans.items j ≡ Some s
      span_at = slice_get-get_or layout.spans.items j s below ∙ ap Some (sym span)

      pub position_cyclic : ReturnsWithin (lists_of slice) s.start s.size → IsCyclicAt design i j
      position_cyclic returns =
          let depends = returning_depends design m.symbol bit_sets (known_inner modules distinct i m at summaries inner) layout.spans.items spans_are j s span_at
          (subst (λ ls. ReturnsWithin ls s.start s.size) lists_are returns) in
          record { module_there = numbered_module (module_of m); number = depends.0; has_module = stored_at modules i (module_of m) at; depends = depends.1 }

      pub position_acyclic : (ReturnsWithin (lists_of slice) s.start s.size → ⊥) → IsCyclicAt design i j → ⊥
      position_acyclic none cyclic =
          let one : Some cyclic.module_there ≡ Some (numbered_module (module_of m)) = sym cyclic.has_module ∙ stored_at modules i (module_of m) at in
          let one_is : cyclic.module_there ≡ numbered_module (module_of m) = cc in
          none
          (subst (λ ls. ReturnsWithin ls s.start s.size) (sym lists_are)
          (depending_returns design m.symbol bit_sets (known_inner modules distinct i m at summaries inner) layout.spans.items spans_are j s span_at cyclic.number
          (subst (λ (x : Module). DependsOn design x.symbol (net [] (result j cyclic.number)) (net [] (result j cyclic.number))) one_is cyclic.depends)))

-- ---- what depends on itself is a result of an operation that is there

pub cyclic_op : (d : Design) (s : Name) (j k : ℕ) → Depends (needs d s) (net [] (result j k)) (net [] (result j k))
    → (o : Op) × (slice_get (body_of (find_module d s)) j ≡ Some o)
cyclic_op d s j k (n, (c, need, chain)) = go (slice_get (body_of (find_module d s)) j) refl
  where
    go : (x : Option Op) → slice_get (body_of (find_module d s)) j ≡ x → (o : Op) × (slice_get (body_of (find_module d s)) j ≡ Some o)
    go None none =
        absurd (subst (λ x. In c (needs_of (result_in d s [] (body_of (find_module d s)) j k x))) none (subst (λ x. In c (needs_of x)) (result_here d s [] j k) need))
    go (Some o) is = (o, is)

pub cyclic_within : (modules : List StoredModule) (i : ℕ) (m : StoredModule) → HasDistinctSymbols (map numbered_module modules) → Some m ≡ slice_get modules i
    → (j : ℕ)
    → IsCyclicAt (map numbered_module modules) i j → j < length (ops_by_position m.ops)
cyclic_within modules i m distinct at j cyclic =
    let one : Some cyclic.module_there ≡ Some (numbered_module m) = sym cyclic.has_module ∙ stored_at modules i m at in
    let one_is : cyclic.module_there ≡ numbered_module m = cc in
    let has = cyclic_op (map numbered_module modules) cyclic.module_there.symbol j cyclic.number cyclic.depends in
    let found : find_module (map numbered_module modules) cyclic.module_there.symbol ≡ Some cyclic.module_there =
    (found_at (map numbered_module modules) distinct i cyclic.module_there cyclic.has_module).1 in
    let there : slice_get (ops_by_position m.ops) j ≡ Some has.0 = ap (λ (x : Module). slice_get x.body j) (sym one_is) ∙ ap (λ o. slice_get (body_of o) j) (sym found) ∙ has.1 in
    slice_get_within (ops_by_position m.ops) j has.0 there

-- a module with such an operation is one of the design
pub cyclic_module : (modules : List StoredModule) (i j : ℕ) → IsCyclicAt (map numbered_module modules) i j → i < length modules
cyclic_module modules i j cyclic =
    let bound : i < length (map numbered_module modules) = slice_get_within (map numbered_module modules) i cyclic.module_there cyclic.has_module in
    let size : length (map numbered_module modules) ≡ length modules = length-map modules numbered_module in
    omega arith

-- ---- where no operation has such a result, no net of any module depends on itself

pub none_cyclic : (d : Design) → HasNoRecursion d → ((i j : ℕ) → IsCyclicAt d i j → ⊥) → (s : Name) → HasNoCycle d s
none_cyclic d finite none = no_cycle_anywhere d nowhere finite
  where
    nowhere : (s : Name) (j k : ℕ) → Depends (needs d s) (net [] (result j k)) (net [] (result j k)) → ⊥
    nowhere s j k around = go (find_module d s) refl
      where
        has : (o : Op) × (slice_get (body_of (find_module d s)) j ≡ Some o)
        has = cyclic_op d s j k around

        go : (x : Option Module) → find_module d s ≡ x → ⊥
        go None is = let e : None ≡ Some has.0 = ap (λ x. slice_get (body_of x) j) (sym is) ∙ has.1 in cc
        go (Some m) is =
            let at = number_found d s m is in
            let there = position_found d s at.0 at.1 in
            none at.0 j (record {
              module_there = there.0;
              number = k;
              has_module = there.1;
              depends = subst (λ t. DependsOn d t (net [] (result j k)) (net [] (result j k))) (sym there.2) around;
            })
