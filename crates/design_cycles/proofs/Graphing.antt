-- The graph of a body as loops make it: the lists of the ports, and then those of the results of each operation.
use Rattle.std.proofs.Common.{◌≡◌, ℕ, zero, suc, ◌+◌, ◌<◌, ◌≤◌, ◌^◌, true, false, cond, List, [], ◌∷◌, ◌++◌, length, map, take, slice_get, Option, Some, None, refl, sym, ap, ap₂, ◌∙◌, arith, append_assoc, option_map}
use Rattle.std.proofs.lemmas.List.{append-nil, map-append, take_all, length-map, length-append, length-take}
use Rattle.wiring.specs.Lists.{total}
use Rattle.wiring.proofs.Lists.{take-suc_some, slice_get_some}
use Rattle.hw_model.specs.Types.{Name}
use Rattle.hw_model.specs.Kinds.{Instance}
use Rattle.hw_model.specs.Design.{Ref, Op, OpResult, instance_in, is_register, is_output_op, result_type}
use Rattle.hw_model.specs.Design.Ref.{result}
use Rattle.design_cycles.specs.declared.layout.Layout.{Layout}
use Rattle.design_cycles.specs.declared.layout.Span.{Span}
use Rattle.graphs.specs.Graphs.{edges, times_over}
use Rattle.design_cycles.specs.Local.{operands_at, where_typed, op_wires, result_wires}
use Rattle.design_cycles.specs.Nodes.{size_by, size_in, sizes_in, AreSpans, IsLayout, node_ref, nodes_in, port_refs, op_refs, result_refs, body_refs, table_by, node_needs, body_lists, lists_at, lists_of_op}
use Rattle.design_cycles.proofs.NodeNumbers.{length-op_refs}

-- ---- what the results of one operation need

-- each result needs what its own bit set gives
bit_sets_need : (g : Ref → List ℕ) (f : List ℕ → List ℕ) (j k : ℕ) (bit_sets : List (List ℕ)) → ((i : ℕ) → i < length bit_sets → g (result j (k + i)) ≡ f (edges bit_sets i))
    → map g (op_refs j k (length bit_sets)) ≡ map f bit_sets
bit_sets_need g f j k [] each = refl
bit_sets_need g f j k (r ∷ bit_sets) each =
    ap₂ (λ x xs. x ∷ xs) ((let e : k ≡ k + 0 = omega arith in ap (λ m. g (result j m)) e) ∙ each 0 (omega arith))
    (bit_sets_need g f j (suc k) bit_sets (λ i below. (let e : suc k + i ≡ k + suc i = omega arith in ap (λ m. g (result j m)) e) ∙ each (suc i) (omega arith)))

-- all results need the same
same_need : (g : Ref → List ℕ) (xs : List ℕ) (j k n : ℕ) → ((i : ℕ) → i < n → g (result j (k + i)) ≡ xs) → map g (op_refs j k n) ≡ times_over n xs
same_need g xs j k zero each = refl
same_need g xs j k (suc n) each =
    ap₂ (λ y ys. y ∷ ys) ((let e : k ≡ k + 0 = omega arith in ap (λ m. g (result j m)) e) ∙ each 0 (omega arith))
    (same_need g xs j (suc k) n (λ i below. (let e : suc k + i ≡ k + suc i = omega arith in ap (λ m. g (result j m)) e) ∙ each (suc i) (omega arith)))

module _ (ports : ℕ) (bit_sets : Name → List (List ℕ)) (os : List Op) (j : ℕ) (o : Op) (there : slice_get os j ≡ Some o) where
  abbrev node : Ref → Option ℕ
  node = node_ref ports (sizes_in bit_sets os)

  abbrev need : Ref → List ℕ
  need = node_needs ports bit_sets os

  of_size : (n : ℕ) → size_in bit_sets o ≡ n → lists_at ports bit_sets os j ≡ map need (op_refs j 0 n)
  of_size n is = ap (lists_of_op ports bit_sets os j) there ∙ ap (λ m. map need (op_refs j 0 m)) is

  -- what a result needs, where the operation is no register
  of_result : (k : ℕ) → is_register o ≡ false → need (result j k) ≡ nodes_in node (op_wires (table_by bit_sets) o k (instance_in o.kind))
  of_result k r =
      ap (λ x. nodes_in node (result_wires (table_by bit_sets) k x)) there ∙ ap (λ b. nodes_in node (cond b [] (op_wires (table_by bit_sets) o k (instance_in o.kind)))) r

  pub held_lists : is_register o ≡ true → lists_at ports bit_sets os j ≡ []
  held_lists r = of_size 0 (ap (λ b. cond b 0 (size_by bit_sets o (instance_in o.kind))) r)

  pub given_lists : is_register o ≡ false → instance_in o.kind ≡ None → is_output_op o ≡ true → lists_at ports bit_sets os j ≡ []
  given_lists r n x =
      of_size 0 (ap (λ b. cond b 0 (size_by bit_sets o (instance_in o.kind))) r ∙ ap (size_by bit_sets o) n ∙ ap (λ b. cond b 0 (length o.results)) x)

  pub made_lists : is_register o ≡ false → instance_in o.kind ≡ None → is_output_op o ≡ false
      → lists_at ports bit_sets os j ≡ times_over (length o.results) (nodes_in node o.operands)
  made_lists r n x =
      of_size (length o.results) (ap (λ b. cond b 0 (size_by bit_sets o (instance_in o.kind))) r ∙ ap (size_by bit_sets o) n ∙ ap (λ b. cond b 0 (length o.results)) x)
      ∙ same_need need (nodes_in node o.operands) j 0 (length o.results) each
    where
      each : (i : ℕ) → i < length o.results → need (result j (0 + i)) ≡ nodes_in node o.operands
      each i below =
          let has = slice_get_some o.results i below in
          let number : 0 + i ≡ i = omega arith in
          let typed : result_type o i ≡ Some has.0.type = ap (option_map (λ (y : OpResult). y.type)) has.1 in
          ap (λ m. need (result j m)) number ∙ of_result i r ∙ ap (λ y. nodes_in node (op_wires (table_by bit_sets) o i y)) n
          ∙ ap (λ b. nodes_in node (cond b [] (where_typed (result_type o i) o.operands))) x ∙ ap (λ t. nodes_in node (where_typed t o.operands)) typed

  pub called_lists : (i : Instance) → is_register o ≡ false → instance_in o.kind ≡ Some i
      → lists_at ports bit_sets os j ≡ map (λ xs. nodes_in node (operands_at o.operands xs)) (bit_sets i.symbol)
  called_lists i r n =
      of_size (length (bit_sets i.symbol)) (ap (λ b. cond b 0 (size_by bit_sets o (instance_in o.kind))) r ∙ ap (size_by bit_sets o) n)
      ∙ bit_sets_need need (λ xs. nodes_in node (operands_at o.operands xs)) j 0 (bit_sets i.symbol) each
    where
      each : (k : ℕ) → k < length (bit_sets i.symbol) → need (result j (0 + k)) ≡ nodes_in node (operands_at o.operands (edges (bit_sets i.symbol) k))
      each k below =
          let number : 0 + k ≡ k = omega arith in
          ap (λ m. need (result j m)) number ∙ of_result k r ∙ ap (λ y. nodes_in node (op_wires (table_by bit_sets) o k y)) n

-- ---- one operation after another

result_refs-push : (i : ℕ) (ns : List ℕ) (n : ℕ) → result_refs i (ns ++ n ∷ []) ≡ result_refs i ns ++ op_refs (i + length ns) 0 n
result_refs-push i [] n = append-nil (op_refs i 0 n) ∙ (let e : i ≡ i + 0 = omega arith in ap (λ m. op_refs m 0 n) e)
result_refs-push i (m ∷ ns) n =
    ap (λ xs. op_refs i 0 m ++ xs) (result_refs-push (suc i) ns n ∙ (let e : suc i + length ns ≡ i + suc (length ns) = omega arith in ap (λ p. result_refs (suc i) ns ++ op_refs p 0 n) e))
    ∙ sym (append_assoc (op_refs i 0 m) (result_refs (suc i) ns) (op_refs (i + suc (length ns)) 0 n))

module _ (ports : ℕ) (bit_sets : Name → List (List ℕ)) (os : List Op) where
  -- the lists of the ports and of the first so many operations
  abbrev pub lists_upto : ℕ → List (List ℕ)
  lists_upto j = map (node_needs ports bit_sets os) (body_refs ports (sizes_in bit_sets (take j os)))

  ports_need_nothing : (p n : ℕ) → map (node_needs ports bit_sets os) (port_refs p n) ≡ times_over n []
  ports_need_nothing p zero = refl
  ports_need_nothing p (suc n) = ap (λ xs. [] ∷ xs) (ports_need_nothing (suc p) n)

  pub graph_begins : (lists : List (List ℕ)) → lists ≡ times_over ports [] → lists ≡ lists_upto 0
  graph_begins lists are = are ∙ sym (ap (map (node_needs ports bit_sets os)) (append-nil (port_refs 0 ports)) ∙ ports_need_nothing 0 ports)

  pub graph_more : (j : ℕ) (old new : List (List ℕ)) → j < length os → old ≡ lists_upto j → new ≡ old ++ lists_at ports bit_sets os j → new ≡ lists_upto (j + 1)
  graph_more j old new below before now =
      now ∙ ap₂ (λ xs ys. xs ++ ys) before (ap (lists_of_op ports bit_sets os j) has.1)
      ∙ sym (map-append (node_needs ports bit_sets os) (body_refs ports (sizes_in bit_sets (take j os))) (op_refs j 0 (size_in bit_sets has.0)))
      ∙ ap (map (node_needs ports bit_sets os)) (sym longer)
    where
      has : (o : Op) × (slice_get os j ≡ Some o)
      has = slice_get_some os j below

      count : length (sizes_in bit_sets (take j os)) ≡ j
      count = length-map (take j os) (size_in bit_sets) ∙ (let e : length (take j os) ≡ j = omega (arith, length-take j os) in e)

      sizes : sizes_in bit_sets (take (j + 1) os) ≡ sizes_in bit_sets (take j os) ++ size_in bit_sets has.0 ∷ []
      sizes =
          ap (sizes_in bit_sets) ((let e : j + 1 ≡ suc j = omega arith in ap (λ k. take k os) e) ∙ take-suc_some os j has.0 has.1)
          ∙ map-append (size_in bit_sets) (take j os) (has.0 ∷ [])

      longer : body_refs ports (sizes_in bit_sets (take (j + 1) os)) ≡ body_refs ports (sizes_in bit_sets (take j os)) ++ op_refs j 0 (size_in bit_sets has.0)
      longer =
          ap (body_refs ports) sizes ∙ ap (λ xs. port_refs 0 ports ++ xs) (result_refs-push 0 (sizes_in bit_sets (take j os)) (size_in bit_sets has.0))
          ∙ sym (append_assoc (port_refs 0 ports) (result_refs 0 (sizes_in bit_sets (take j os))) (op_refs (0 + length (sizes_in bit_sets (take j os))) 0 (size_in bit_sets has.0)))
          ∙ (let e : 0 + length (sizes_in bit_sets (take j os)) ≡ j = omega (arith, count) in ap (λ m. body_refs ports (sizes_in bit_sets (take j os)) ++ op_refs m 0 (size_in bit_sets has.0)) e)

  pub graph_ends : (j : ℕ) (lists : List (List ℕ)) → length os ≤ j → lists ≡ lists_upto j → lists ≡ body_lists ports bit_sets os
  graph_ends j lists all are = are ∙ ap (λ xs. map (node_needs ports bit_sets os) (body_refs ports (sizes_in bit_sets xs))) (take_all j os all)

-- ---- how many nodes there are

length-port_refs : (p n : ℕ) → length (port_refs p n) ≡ n
length-port_refs p zero = refl
length-port_refs p (suc n) = ap suc (length-port_refs (suc p) n)

length-result_refs : (i : ℕ) (ns : List ℕ) → length (result_refs i ns) ≡ total ns
length-result_refs i [] = refl
length-result_refs i (n ∷ ns) =
    length-append (op_refs i 0 n) (result_refs (suc i) ns) ∙ ap₂ (λ a b. a + b) (length-op_refs i 0 n) (length-result_refs (suc i) ns)

spans_bound : (start : ℕ) (ns : List ℕ) (ss : List Span) → AreSpans start ns ss → start < 2 ^ 32 → start + total ns < 2 ^ 32
spans_bound start [] ss are small = omega arith
spans_bound start (n ∷ ns) [] are small = absurd are
spans_bound start (n ∷ ns) (s ∷ ss) are small =
    let at : s.start ≡ start = are.0 in
    let size : s.size ≡ n = are.1 in
    let fits : s.start + s.size < 2 ^ 32 = s.fits in
    let rest : start + n + total ns < 2 ^ 32 = spans_bound (start + n) ns ss are.2 (omega arith) in
    omega arith

module _ (ports : ℕ) (bit_sets : Name → List (List ℕ)) (os : List Op) (lists : List (List ℕ)) (are : lists ≡ body_lists ports bit_sets os) where
  pub graph_count : length lists ≡ ports + total (sizes_in bit_sets os)
  graph_count =
      ap length are ∙ length-map (body_refs ports (sizes_in bit_sets os)) (node_needs ports bit_sets os)
      ∙ length-append (port_refs 0 ports) (result_refs 0 (sizes_in bit_sets os)) ∙ ap₂ (λ a b. a + b) (length-port_refs 0 ports) (length-result_refs 0 (sizes_in bit_sets os))

  pub graph_small : (ids : List ℕ) (layout : Layout) → IsLayout ports (sizes_in bit_sets os) ids layout → ports < 2 ^ 32 → length lists < 2 ^ 32
  graph_small ids layout is small =
      let bound : ports + total (sizes_in bit_sets os) < 2 ^ 32 = spans_bound ports (sizes_in bit_sets os) layout.spans.items is.spans small in
      let count : length lists ≡ ports + total (sizes_in bit_sets os) = graph_count in
      omega arith
