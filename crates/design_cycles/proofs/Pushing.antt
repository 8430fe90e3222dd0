-- What code appends to the graph of a body, and what it reads of a body, in the words of definitions.
use Rattle.std.proofs.Common.{◌≡◌, ℕ, zero, suc, ◌+◌, ◌<◌, ◌≤◌, true, false, cond, List, [], ◌∷◌, length, map, drop, slice_get, Some, None, refl, sym, ap, ap₂, subst, ◌∙◌, arith}
use Rattle.std.proofs.lemmas.List.{length-map}
use Rattle.hw_model.specs.Types.{Name}
use Rattle.hw_model.specs.Kinds.{Instance}
use Rattle.hw_model.specs.Design.{Op, instance_in, is_register, is_output_op, output_refs}
use Rattle.ir_store.specs.declared.body.Body.{Body}
use Rattle.ir_store.specs.declared.body.Op.{Op as CodeOp}
use Rattle.ir_store.specs.declared.operation.OpId.{OpId}
use Rattle.ir_store.specs.BodyOps.{BodyOp}
use Rattle.ir_store.specs.Bodies.{ids_of, ops_of, op_id}
use Rattle.ir_store.specs.Live.{AreDistinct}
use Rattle.ir_store.specs.Numbered.{position_of, op_by, ops_by_position}
use Rattle.body_index.specs.PositionTables.{ArePositions}
use Rattle.ir_store.proofs.BodyLemmas.{ids_once}
use Rattle.body_index.proofs.PositionTables.{indices, ids_same}
use Rattle.design_cycles.specs.declared.layout.Layout.{Layout}
use Rattle.design_cycles.specs.declared.ops.Sort.{Sort}
use Rattle.design_cycles.specs.declared.ops.Sort.TheVariants.{Register, Calls, Gives, Made}
use Rattle.design_cycles.specs.Sorts.{gives}
use Rattle.body_index.specs.OpIndexes.{op_view}
use Rattle.design_cycles.specs.Local.{operands_at}
use Rattle.design_cycles.specs.Nodes.{sizes_in, size_in, AreSpans, IsLayout, node_ref, nodes_in, value_nodes, picked_values, lists_at}
use Rattle.graphs.specs.Graphs.{times_over}
use Rattle.design_cycles.proofs.NodeValues.{span_count, values_are, picked_are}
use Rattle.design_cycles.proofs.Graphing.{made_lists, called_lists}

-- ---- ids

module _ (b : Body) (ids : List OpId) (all : ids ≡ map op_id (ids_of b)) where
  pub indices_are : indices ids ≡ ids_of b
  indices_are = ids_same ids (ids_of b) all

  pub ids_distinct : AreDistinct (indices ids)
  ids_distinct = subst AreDistinct (sym indices_are) (ids_once b)

  pub ids_count : length ids ≡ length (ops_by_position (ops_of b))
  ids_count =
      ap length all ∙ length-map (ids_of b) op_id ∙ length-map (ops_of b) (λ (o : BodyOp). o.id) ∙ sym (length-map (ops_of b) (op_by (position_of (ids_of b))))

  pub layout_is : (ports : ℕ) (sizes : List ℕ) (layout : Layout) → layout.ports ≡ ports → AreSpans layout.ports sizes layout.spans.items
      → ArePositions (indices ids) layout.positions.items
      → IsLayout ports sizes (ids_of b) layout
  layout_is ports sizes layout count spans positions = record {
    count = count;
    spans = subst (λ n. AreSpans n sizes layout.spans.items) count spans;
    positions = subst (λ xs. ArePositions xs layout.positions.items) indices_are positions;
  }

pub sizes_count : (b : Body) (bit_sets : Name → List (List ℕ)) → length (sizes_in bit_sets (ops_by_position (ops_of b))) ≡ length (ids_of b)
sizes_count b bit_sets =
    length-map (ops_by_position (ops_of b)) (size_in bit_sets) ∙ length-map (ops_of b) (op_by (position_of (ids_of b))) ∙ sym (length-map (ops_of b) (λ (o : BodyOp). o.id))

-- ---- what one operation's results need

module _ (b : Body) (o : CodeOp) (ports : ℕ) (bit_sets : Name → List (List ℕ)) (j : ℕ) (l : Layout) (is : IsLayout ports (sizes_in bit_sets (ops_by_position (ops_of b))) (ids_of b) l)
    (there : slice_get (ops_by_position (ops_of b)) j ≡ Some (op_view b o)) where
  abbrev os : List Op
  os = ops_by_position (ops_of b)

  pub made_need : (n : ℕ) → n ≡ length (op_view b o).results → false ≡ is_register (op_view b o) → None ≡ instance_in (op_view b o).kind
      → false ≡ is_output_op (op_view b o)
      → times_over n (value_nodes l o.operands.now) ≡ lists_at ports bit_sets os j
  made_need n count r i x =
      ap₂ times_over count (values_are ports (sizes_in bit_sets os) (ids_of b) l is (sizes_count b bit_sets) o.operands.now) ∙ sym (made_lists ports bit_sets os j (op_view b o) there (sym r) (sym i) (sym x))

  pub called_need : (i : Instance) (xs : List (List ℕ)) → xs ≡ bit_sets i.symbol → false ≡ is_register (op_view b o) → Some i ≡ instance_in (op_view b o).kind
      → map (picked_values l o.operands.now) xs ≡ lists_at ports bit_sets os j
  called_need i xs are r n =
      ap (map (picked_values l o.operands.now)) are ∙ each (bit_sets i.symbol) ∙ sym (called_lists ports bit_sets os j (op_view b o) there i (sym r) (sym n))
    where
      each : (ys : List (List ℕ))
          → map (picked_values l o.operands.now) ys ≡ map (λ zs. nodes_in (node_ref ports (sizes_in bit_sets os)) (operands_at (op_view b o).operands zs)) ys
      each [] = refl
      each (y ∷ ys) = ap₂ (λ a c. a ∷ c) (picked_are ports (sizes_in bit_sets os) (ids_of b) l is (sizes_count b bit_sets) o.operands.now y) (each ys)

-- ---- the first output

drop_at : (os : List Op) (p : ℕ) (o : Op) → slice_get os p ≡ Some o → drop p os ≡ o ∷ drop (p + 1) os
drop_at [] p o at = cc
drop_at (x ∷ os) zero o at = let e : x ≡ o = cc in ap (λ y. y ∷ os) e
drop_at (x ∷ os) (suc p) o at = drop_at os p o at ∙ (let e : suc p + 1 ≡ suc (p + 1) = omega arith in ap (λ n. o ∷ drop n (x ∷ os)) (sym e))

module _ (os : List Op) (p : ℕ) (before : output_refs (drop p os) ≡ output_refs os) where
  pub output_here : (o : Op) → slice_get os p ≡ Some o → true ≡ is_output_op o → o.operands ≡ output_refs os
  output_here o at is = sym (ap (λ b. cond b o.operands (output_refs (drop (p + 1) os))) (sym is)) ∙ sym (ap output_refs (drop_at os p o at)) ∙ before

  pub output_later : (o : Op) → slice_get os p ≡ Some o → (s : Sort) → (s ≡ Gives → ⊥) → gives s ≡ is_output_op o
      → output_refs (drop (p + 1) os) ≡ output_refs os
  output_later o at s other is =
      sym (ap (λ b. cond b o.operands (output_refs (drop (p + 1) os))) (sym is ∙ not_given s other)) ∙ sym (ap output_refs (drop_at os p o at)) ∙ before
    where
      not_given : (s : Sort) → (s ≡ Gives → ⊥) → gives s ≡ false
      not_given Register not_gives = refl
      not_given (Calls i) not_gives = refl
      not_given Gives not_gives = absurd (not_gives refl)
      not_given Made not_gives = refl

  pub output_nowhere : length os ≤ p → [] ≡ output_refs os
  output_nowhere all = sym (ap output_refs (drop_all p os all)) ∙ before
    where
      drop_all : (n : ℕ) (xs : List Op) → length xs ≤ n → drop n xs ≡ []
      drop_all zero [] bound = refl
      drop_all (suc n) [] bound = refl
      drop_all zero (x ∷ xs) bound = absurd (omega arith)
      drop_all (suc n) (x ∷ xs) bound = drop_all n xs (omega arith)

-- ---- spans

pub spans_below : (b : Body) (bit_sets : Name → List (List ℕ)) (ports : ℕ) (layout : Layout)
    → IsLayout ports (sizes_in bit_sets (ops_by_position (ops_of b))) (ids_of b) layout → (ids : List OpId)
    → ids ≡ map op_id (ids_of b) → (j : ℕ) → j < length ids → j < length layout.spans.items
spans_below b bit_sets ports layout is ids all j below =
    let spans : length layout.spans.items ≡ length (sizes_in bit_sets (ops_by_position (ops_of b))) = span_count ports (sizes_in bit_sets (ops_by_position (ops_of b))) layout.spans.items is.spans in
    let sizes : length (sizes_in bit_sets (ops_by_position (ops_of b))) ≡ length (ids_of b) = sizes_count b bit_sets in
    let count : length ids ≡ length (ids_of b) = ap length all ∙ length-map (ids_of b) op_id in
    omega arith
