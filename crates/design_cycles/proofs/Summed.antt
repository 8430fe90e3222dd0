-- What the graph of a body says of the flattened module: its summary, and which results depend on themselves.
use Rattle.std.proofs.Common.{◌≡◌, ℕ, zero, suc, ◌+◌, ◌-◌, ◌<◌, Bool, true, false, cond, nat_lt, List, [], length, map, slice_get, Option, Some, None, option_map, refl, sym, ap, ◌∙◌, arith}
use Rattle.std.proofs.lemmas.Option.{slice_get-map, slice_get_within}
use Rattle.std.proofs.lemmas.Bool.Decides.{nat_tests}
use Rattle.wiring.specs.Wiring.{In, Chain, Depends as IsReached}
use Rattle.wiring.specs.Lists.{total}
use Rattle.wiring.proofs.Lists.{slice_get_some}
use Rattle.hw_model.specs.Types.{Name}
use Rattle.hw_model.specs.Design.{Ref, Port, Op, Design, find_module, output_refs}
use Rattle.hw_model.specs.Design.Ref.{port, result}
use Rattle.hw_model.specs.Flat.{net}
use Rattle.hw_model.specs.Meaning.{Depends}
use Rattle.hw_model.specs.Sound.{body_of, ports_of}
use Rattle.design_cycles.specs.declared.layout.Span.{Span}
use Rattle.graphs.specs.Graphs.{edges}
use Rattle.design_cycles.specs.Graphs.{LeadsTo, ReturnsWithin}
use Rattle.design_cycles.specs.Local.{IsInput, IsSummary, wires}
use Rattle.design_cycles.specs.Nodes.{sizes_in, AreSpans, node_ref, span_node, table_by, body_lists}
use Rattle.design_cycles.specs.Summing.{inputs_from, AreOutputs, KnowsCallees}
use Rattle.graphs.proofs.Marking.{edges_within}
use Rattle.design_cycles.proofs.Locals.{FeedsLocally, feeds_from_local, feeds_to_local, depends_wires, wires_depend}
use Rattle.design_cycles.proofs.NodeNumbers.{needing_node, nodes_chain, wires_chain}
use Rattle.design_cycles.proofs.NodeValues.{spans_give}
use Rattle.design_cycles.proofs.Graphing.{graph_count}
use Rattle.design_cycles.proofs.Inputs.{from_input, to_input}

test_true : (a b : ℕ) → a < b → nat_lt a b ≡ true
test_true a b below = grind (arith, nat_tests)

true_test : (a b : ℕ) → nat_lt a b ≡ true → a < b
true_test a b is = grind (arith, nat_tests)

-- the first of the two where the test holds
only_where : (b : Bool) (x v : ℕ) → cond b (Some x) None ≡ Some v → (b ≡ true) × (x ≡ v)
only_where true x v is = let e : x ≡ v = cc in (refl, e)
only_where false x v is = cc

module _ (d : Design) (top : Name) (bit_sets : Name → List (List ℕ)) (known : KnowsCallees d bit_sets top) where
  abbrev os : List Op
  os = body_of (find_module d top)

  abbrev ps : List Port
  ps = ports_of (find_module d top)

  abbrev lists : List (List ℕ)
  lists = body_lists (length ps) bit_sets os

  abbrev node : Ref → Option ℕ
  node = node_ref (length ps) (sizes_in bit_sets os)

  abbrev local : Ref → List Ref
  local = wires (table_by bit_sets) os

  input_node : (j x : ℕ) → IsInput ps j x → node (port j) ≡ Some j
  input_node j x input = ap (λ b. cond b (Some j) None) (test_true j (length ps) (slice_get_within ps j input.port_there input.has_port))

  input_there : (j x : ℕ) → IsInput ps j x → j < length lists
  input_there j x input =
      let below : j < length ps = slice_get_within ps j input.port_there input.has_port in
      let count : length lists ≡ length ps + total (sizes_in bit_sets os) = graph_count (length ps) bit_sets os lists refl in
      omega arith

  -- ---- the summary

  module _ (nodes : List (Option ℕ)) (outputs : List (List ℕ)) (are : AreOutputs lists (inputs_from 0 ps) nodes outputs) (of_refs : nodes ≡ map node (output_refs os)) where
    ref_of : (k : ℕ) (from : Option ℕ) → slice_get nodes k ≡ Some from → (r : Ref) × (slice_get (output_refs os) k ≡ Some r) × (node r ≡ from)
    ref_of k from at = go (slice_get (output_refs os) k) refl
      where
        mapped : option_map node (slice_get (output_refs os) k) ≡ Some from
        mapped = sym (ap (λ ns. slice_get ns k) of_refs ∙ slice_get-map node (output_refs os) k) ∙ at

        go : (o : Option Ref) → slice_get (output_refs os) k ≡ o → (r : Ref) × (slice_get (output_refs os) k ≡ Some r) × (node r ≡ from)
        go None none = let e : None ≡ Some from = ap (option_map node) (sym none) ∙ mapped in cc
        go (Some r) is = let e : Some (node r) ≡ Some from = ap (option_map node) (sym is) ∙ mapped in (r, is, cc)

    listed : (k x : ℕ) → In x (edges outputs k) → FeedsLocally d top (table_by bit_sets) known k x
    listed k x here =
        let below : k < length outputs = edges_within outputs k x here in
        let size : length outputs ≡ length nodes = are.count in
        let from = slice_get_some nodes k (omega arith) in
        let given = ref_of k from.0 from.1 in
        let found = (are.each k from.0 from.1).sound x here in
        let input = from_input 0 ps x found.0 found.1 in
        let leads = found.2 in
        let same : found.0 ≡ input.0 = omega (arith, input.1) in
        let position : node (port input.0) ≡ Some found.0 = input_node input.0 x input.2 ∙ ap Some (sym same) in
        record {
          given = given.0;
          at = input.0;
          steps = leads.2.0;
          gives = given.1;
          takes = input.2;
          chain = wires_chain (length ps) bit_sets os leads.2.0 given.0 (port input.0) leads.0 found.0 leads.2.1 (given.2 ∙ leads.1) position;
        }

    begins : (n : ℕ) (a b : Ref) (w : ℕ) → Chain local n a b → node b ≡ Some w → (v : ℕ) × (node a ≡ Some v)
    begins zero a b w same is = (w, ap node same ∙ is)
    begins (suc n) a b w (c, need, chain) is = needing_node (length ps) bit_sets os a c need

    feeds_listed : (k x : ℕ) → FeedsLocally d top (table_by bit_sets) known k x → In x (edges outputs k)
    feeds_listed k x f =
        let number : 0 + f.at ≡ f.at = omega arith in
        let there : slice_get nodes k ≡ Some (node f.given) = ap (λ ns. slice_get ns k) of_refs ∙ slice_get-map node (output_refs os) k ∙ ap (option_map node) f.gives in
        let end : node (port f.at) ≡ Some f.at = input_node f.at x f.takes in
        let start = begins f.steps f.given (port f.at) f.at f.chain end in
        let leads : LeadsTo lists (node f.given) f.at =
        (start.0, start.1, (f.steps, nodes_chain (length ps) bit_sets os f.steps f.given (port f.at) start.0 f.at f.chain start.1 end)) in
        (are.each k (node f.given) there).complete x f.at (to_input 0 ps f.at x f.takes ∙ ap Some number) (input_there f.at x f.takes) leads

    pub sums_up : IsSummary d (λ _ k. edges outputs k) top
    sums_up = record {
      sound = λ k x here. feeds_from_local d top (table_by bit_sets) known k x (listed k x here);
      complete = λ k x feeds. feeds_listed k x (feeds_to_local d top (table_by bit_sets) known k x feeds);
    }

  -- ---- results that depend on themselves

  module _ (spans : List Span) (are : AreSpans (length ps) (sizes_in bit_sets os) spans) (j : ℕ) (s : Span) (at : slice_get spans j ≡ Some s) where
    in_span : (k : ℕ) → node (result j k) ≡ cond (nat_lt k s.size) (Some (s.start + k)) None
    in_span k = sym (spans_give (length ps) (sizes_in bit_sets os) spans j k are) ∙ ap (λ o. span_node o k) at

    pub returning_depends : ReturnsWithin lists s.start s.size → (k : ℕ) × Depends d top (net [] (result j k)) (net [] (result j k))
    returning_depends (v, low, high, (m, chain)) =
        let position : s.start + (v - s.start) ≡ v = omega arith in
        let is : node (result j (v - s.start)) ≡ Some v =
        in_span (v - s.start) ∙ ap (λ b. cond b (Some (s.start + (v - s.start))) None) (test_true (v - s.start) s.size (omega arith)) ∙ ap Some position in (
          v - s.start,
          wires_depend d top (table_by bit_sets) known (result j (v - s.start)) (result j (v - s.start)) (m, wires_chain (length ps) bit_sets os (suc m) (result j (v - s.start)) (result j (v - s.start)) v v chain is is),
        )

    pub depending_returns : (k : ℕ) → Depends d top (net [] (result j k)) (net [] (result j k)) → ReturnsWithin lists s.start s.size
    depending_returns k around = go (depends_wires d top (table_by bit_sets) known (result j k) (result j k) around)
      where
        go : IsReached local (result j k) (result j k) → ReturnsWithin lists s.start s.size
        go (m, (c, need, chain)) =
            let has = needing_node (length ps) bit_sets os (result j k) c need in
            let found = only_where (nat_lt k s.size) (s.start + k) has.0 (sym (in_span k) ∙ has.1) in
            let below : k < s.size = true_test k s.size found.0 in
            let position : s.start + k ≡ has.0 = found.1 in
            (has.0, omega arith, omega arith, (m, nodes_chain (length ps) bit_sets os (suc m) (result j k) (result j k) has.0 has.0 (c, need, chain) has.1 has.1))
