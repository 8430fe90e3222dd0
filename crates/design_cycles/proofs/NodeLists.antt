-- Lists of nodes as loops make them.
use Rattle.std.proofs.Common.{◌≡◌, ℕ, zero, suc, ◌+◌, ◌<◌, List, [], ◌∷◌, ◌++◌, length, take, get_or, slice_get, Option, Some, None, refl, sym, ap, ap₂, subst, ◌∙◌, arith, append_assoc, option_and_then}
use Rattle.std.specs.Option.{option_to_list}
use Rattle.std.proofs.lemmas.List.{take_more, append-nil, map-append}
use Rattle.wiring.specs.Lists.{total}
use Rattle.wiring.proofs.Lists.{take-suc_some}
use Rattle.wiring.proofs.Totals.{total-append}
use Rattle.hw_model.specs.Types.{Name}
use Rattle.hw_model.specs.Design.{Op}
use Rattle.ir_store.specs.declared.operation.Value.{Value}
use Rattle.design_cycles.specs.declared.layout.Layout.{Layout}
use Rattle.design_cycles.specs.declared.layout.Span.{Span}
use Rattle.graphs.specs.declared.graph.NodeList.{NodeList}
use Rattle.graphs.specs.Graphs.{lists_of, times_over}
use Rattle.design_cycles.specs.Nodes.{size_in, sizes_in, HasSize, AreSpans, value_node, value_nodes, picked_values}

values-append : (l : Layout) (xs ys : List Value) → value_nodes l (xs ++ ys) ≡ value_nodes l xs ++ value_nodes l ys
values-append l [] ys = refl
values-append l (x ∷ xs) ys = ap (λ zs. option_to_list (value_node l x) ++ zs) (values-append l xs ys) ∙ sym (append_assoc (option_to_list (value_node l x)) (value_nodes l xs) (value_nodes l ys))

picked-append : (l : Layout) (values : List Value) (xs ys : List ℕ) → picked_values l values (xs ++ ys) ≡ picked_values l values xs ++ picked_values l values ys
picked-append l values [] ys = refl
picked-append l values (x ∷ xs) ys =
    ap (λ zs. option_to_list (option_and_then (value_node l) (slice_get values x)) ++ zs) (picked-append l values xs ys)
    ∙ sym (append_assoc (option_to_list (option_and_then (value_node l) (slice_get values x))) (picked_values l values xs) (picked_values l values ys))

-- one more, which has a node or none
pub values_more : (l : Layout) (values : List Value) (i : ℕ) (x d : Value) (nodes old : List ℕ) (n : Option ℕ) → i < length values → x ≡ get_or values i d → old ≡ value_nodes l (take i values)
    → n ≡ value_node l x → nodes ≡ old ++ option_to_list n → nodes ≡ value_nodes l (take (i + 1) values)
values_more l values i x d nodes old n below is before node now =
    now ∙ ap₂ (λ xs o. xs ++ option_to_list o) before node
    ∙ sym (ap (value_nodes l) (take_more values i d below) ∙ values-append l (take i values) (get_or values i d ∷ [])
    ∙ ap (λ zs. value_nodes l (take i values) ++ zs) (append-nil (option_to_list (value_node l (get_or values i d))) ∙ ap (λ y. option_to_list (value_node l y)) (sym is)))

pub picked_more : (l : Layout) (values : List Value) (numbers : List ℕ) (i : ℕ) (nodes old : List ℕ) (n : Option ℕ) → i < length numbers → old ≡ picked_values l values (take i numbers)
    → n ≡ option_and_then (value_node l) (slice_get values (get_or numbers i 0)) → nodes ≡ old ++ option_to_list n → nodes ≡ picked_values l values (take (i + 1) numbers)
picked_more l values numbers i nodes old n below before node now =
    now ∙ ap₂ (λ xs o. xs ++ option_to_list o) before node
    ∙ sym (ap (picked_values l values) (take_more numbers i 0 below) ∙ picked-append l values (take i numbers) (get_or numbers i 0 ∷ [])
    ∙ ap (λ zs. picked_values l values (take i numbers) ++ zs) (append-nil (option_to_list (option_and_then (value_node l) (slice_get values (get_or numbers i 0))))))

pub with_some : (n : Option ℕ) (k : ℕ) (nodes old : List ℕ) → n ≡ Some k → nodes ≡ old ++ k ∷ [] → nodes ≡ old ++ option_to_list n
with_some n k nodes old is now = now ∙ ap (λ o. old ++ option_to_list o) (sym is)

pub with_none : (n : Option ℕ) (nodes old : List ℕ) → n ≡ None → nodes ≡ old → nodes ≡ old ++ option_to_list n
with_none n nodes old is now = now ∙ sym (append-nil old) ∙ ap (λ o. old ++ option_to_list o) (sym is)

-- ---- spans

spans-push : (start : ℕ) (ns : List ℕ) (n : ℕ) (ss : List Span) (s : Span) → AreSpans start ns ss → s.start ≡ start + total ns → s.size ≡ n → AreSpans start (ns ++ n ∷ []) (ss ++ s ∷ [])
spans-push start [] n [] s are at size = let e : s.start ≡ start = omega arith in (e, size, tt)
spans-push start [] n (t ∷ ss) s are at size = absurd are
spans-push start (m ∷ ns) n [] s are at size = absurd are
spans-push start (m ∷ ns) n (t ∷ ss) s are at size =
    let e : s.start ≡ start + m + total ns = omega arith in (are.0, are.1, spans-push (start + m) ns n ss s are.2 e size)

pub spans_more : (bit_sets : Name → List (List ℕ)) (os : List Op) (j ports n start next : ℕ) (spans new : List Span) (s : Span) → HasSize bit_sets os j n
    → AreSpans ports (sizes_in bit_sets (take j os)) spans → start ≡ ports + total (sizes_in bit_sets (take j os)) → s.start ≡ start → s.size ≡ n → next ≡ start + n → new ≡ spans ++ s ∷ []
    → AreSpans ports (sizes_in bit_sets (take (j + 1) os)) new × (next ≡ ports + total (sizes_in bit_sets (take (j + 1) os)))
spans_more bit_sets os j ports n start next spans new s at are from first many following grown = (
  subst (λ ss. AreSpans ports (sizes_in bit_sets (take (j + 1) os)) ss) (sym grown)
      (subst (λ ns. AreSpans ports ns (spans ++ s ∷ [])) (sym longer) (spans-push ports (sizes_in bit_sets (take j os)) n spans s are (first ∙ from) many)),
  (let sum : total (sizes_in bit_sets (take (j + 1) os)) ≡ total (sizes_in bit_sets (take j os)) + total (n ∷ []) = ap total longer ∙ total-append (sizes_in bit_sets (take j os)) (n ∷ []) in omega arith),
)
  where
    longer : sizes_in bit_sets (take (j + 1) os) ≡ sizes_in bit_sets (take j os) ++ n ∷ []
    longer =
        ap (sizes_in bit_sets) ((let e : j + 1 ≡ suc j = omega arith in ap (λ k. take k os) e) ∙ take-suc_some os j at.op_there at.has_op)
        ∙ map-append (size_in bit_sets) (take j os) (at.op_there ∷ []) ∙ ap (λ k. sizes_in bit_sets (take j os) ++ k ∷ []) (sym at.size_is)

-- ---- one more list at the end of a graph

pub bit_set_more : (graph old : List NodeList) (n : NodeList) (base done : List (List ℕ)) (bit_set : List ℕ) → graph ≡ old ++ n ∷ [] → lists_of old ≡ base ++ done → n.nodes.items ≡ bit_set → lists_of graph ≡ base ++ (done ++ bit_set ∷ [])
bit_set_more graph old n base done bit_set grown before is =
    ap lists_of grown ∙ map-append (λ (x : NodeList). x.nodes.items) old (n ∷ []) ∙ ap₂ (λ xs y. xs ++ y ∷ []) before is ∙ append_assoc base done (bit_set ∷ [])
