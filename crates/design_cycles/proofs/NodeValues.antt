-- The node of a value in code is that of what it stands for, and what an operation's results need in code is what they need.
use Rattle.std.proofs.Common.{◌≡◌, ◌⊎◌, ℕ, zero, suc, ◌+◌, ◌<◌, ◌≤◌, Bool, true, false, cond, nat_lt, nat_eq, List, [], ◌∷◌, ◌++◌, length, map, slice_get, Option, Some, None, option_map, refl, sym}
use Rattle.std.proofs.Common.{ap, ap₂, ◌∙◌, inl, inr, arith, option_and_then}
use Rattle.std.specs.Option.{option_to_list}
use Rattle.std.proofs.lemmas.Bool.{eqb-true, eqb-false}
use Rattle.std.proofs.lemmas.Option.{slice_get-map, slice_get_within}
use Rattle.hw_model.specs.Design.{Ref}
use Rattle.ir_store.specs.declared.operation.Value.{Value}
use Rattle.ir_store.specs.declared.operation.Value.TheVariants.{Port, Result, Undefined}
use Rattle.ir_store.specs.Numbered.{position_of, ref_by}
use Rattle.design_cycles.specs.declared.layout.Layout.{Layout}
use Rattle.design_cycles.specs.declared.layout.Span.{Span}
use Rattle.design_cycles.specs.Local.{operands_at}
use Rattle.body_index.specs.PositionTables.{ArePositions}
use Rattle.design_cycles.specs.Nodes.{AreSpans, IsLayout, node_at, node_ref, nodes_in, span_node, value_node, value_nodes, picked_values}

-- ---- positions of ids

position_within : (ids : List ℕ) (q : ℕ) → (position_of ids q < length ids → slice_get ids (position_of ids q) ≡ Some q)
position_within [] q below = absurd (omega arith)
position_within (i ∷ ids) q below = go (nat_eq i q) refl (position_within ids q) below
  where
    go : (b : Bool) → nat_eq i q ≡ b → (position_of ids q < length ids → slice_get ids (position_of ids q) ≡ Some q) → cond b 0 (suc (position_of ids q)) < suc (length ids) → slice_get (i ∷ ids) (cond b 0 (suc (position_of ids q))) ≡ Some q
    go true same rest low = ap Some (eqb-true i q same)
    go false other rest low = rest (omega arith)

pub position_least : (ids : List ℕ) (q j : ℕ) → slice_get ids j ≡ Some q → position_of ids q ≤ j
position_least [] q j at = cc
position_least (i ∷ ids) q zero at = go (nat_eq i q) refl
  where
    go : (b : Bool) → nat_eq i q ≡ b → cond b 0 (suc (position_of ids q)) ≤ 0
    go true same = omega arith
    go false other = let e : i ≡ q = cc in absurd (eqb-false i q other e)
position_least (i ∷ ids) q (suc j) at = go (nat_eq i q) (position_least ids q j at)
  where
    go : (b : Bool) → position_of ids q ≤ j → cond b 0 (suc (position_of ids q)) ≤ suc j
    go true rest = omega arith
    go false rest = omega arith

-- the span of the operation of an id, by its position
positions_give : (ids positions : List ℕ) (q : ℕ) {A : Type 0} (xs : List A) → ArePositions ids positions → length xs ≡ length ids
    → option_and_then (slice_get xs) (slice_get positions q) ≡ slice_get xs (position_of ids q)
positions_give ids positions q xs are size = go (slice_get positions q) refl
  where
    past : (n : ℕ) → length ids ≤ n → slice_get xs n ≡ None
    past n far = by (slice_get xs n) refl
      where
        by : (o : Option _) → slice_get xs n ≡ o → slice_get xs n ≡ None
        by None is = is
        by (Some x) is = let bound : n < length xs = slice_get_within xs n x is in absurd (omega arith)

    absent : ((j : ℕ) → slice_get ids j ≡ Some q → ⊥) → slice_get xs (position_of ids q) ≡ None
    absent none = by_order (grind arith)
      where
        by_order : (position_of ids q < length ids) ⊎ (length ids ≤ position_of ids q) → slice_get xs (position_of ids q) ≡ None
        by_order (inl below) = absurd (none (position_of ids q) (position_within ids q below))
        by_order (inr far) = past (position_of ids q) far

    go : (o : Option ℕ) → slice_get positions q ≡ o → option_and_then (slice_get xs) o ≡ slice_get xs (position_of ids q)
    go None none = sym (absent (λ j at. (let e : None ≡ Some j = sym none ∙ are.known j q at in cc)))
    go (Some j) some = by_order (grind arith)
      where
        by_order : (j < length ids) ⊎ (length ids ≤ j) → slice_get xs j ≡ slice_get xs (position_of ids q)
        by_order (inl below) =
            let here : slice_get ids j ≡ Some q = are.real q j some below in
            let low : position_of ids q ≤ j = position_least ids q j here in
            let there : slice_get ids (position_of ids q) ≡ Some q = position_within ids q (omega arith) in
            let same : Some j ≡ Some (position_of ids q) = sym some ∙ are.known (position_of ids q) q there in
            let e : j ≡ position_of ids q = cc in ap (slice_get xs) e
        by_order (inr far) =
            past j far ∙ sym (absent (λ k at. (let same : Some j ≡ Some k = sym some ∙ are.known k q at in
            let e : j ≡ k = cc in let bound : k < length ids = slice_get_within ids k q at in absurd (omega arith))))

pub spans_give : (start : ℕ) (ns : List ℕ) (ss : List Span) (j k : ℕ) → AreSpans start ns ss → span_node (slice_get ss j) k ≡ node_at start ns j k
spans_give start [] [] j k are = refl
spans_give start [] (s ∷ ss) j k are = absurd are
spans_give start (n ∷ ns) [] j k are = absurd are
spans_give start (n ∷ ns) (s ∷ ss) zero k are = ap₂ (λ a b. cond (nat_lt k b) (Some (a + k)) None) are.0 are.1
spans_give start (n ∷ ns) (s ∷ ss) (suc j) k are = spans_give (start + n) ns ss j k are.2

pub span_count : (start : ℕ) (ns : List ℕ) (ss : List Span) → AreSpans start ns ss → length ss ≡ length ns
span_count start [] [] are = refl
span_count start [] (s ∷ ss) are = absurd are
span_count start (n ∷ ns) [] are = absurd are
span_count start (n ∷ ns) (s ∷ ss) are = ap suc (span_count (start + n) ns ss are.2)

module _ (ports : ℕ) (sizes ids : List ℕ) (layout : Layout) (is : IsLayout ports sizes ids layout) (size : length sizes ≡ length ids) where
  pub value_is : (v : Value) → value_node layout v ≡ node_ref ports sizes (ref_by (position_of ids) v)
  value_is (Port p) = ap (λ n. cond (nat_lt p n) (Some p) None) is.count
  value_is (Result id k) =
      ap (λ o. span_node o k) (positions_give ids layout.positions.items id.index layout.spans.items is.positions (span_count ports sizes layout.spans.items is.spans ∙ size))
      ∙ spans_give ports sizes layout.spans.items (position_of ids id.index) k is.spans
  value_is Undefined = refl

  pub values_are : (vs : List Value) → value_nodes layout vs ≡ nodes_in (node_ref ports sizes) (map (ref_by (position_of ids)) vs)
  values_are [] = refl
  values_are (v ∷ vs) = ap₂ (λ o xs. option_to_list o ++ xs) (value_is v) (values_are vs)

  pub picked_are : (vs : List Value) (xs : List ℕ) → picked_values layout vs xs ≡ nodes_in (node_ref ports sizes) (operands_at (map (ref_by (position_of ids)) vs) xs)
  picked_are vs [] = refl
  picked_are vs (x ∷ xs) =
      ap₂ (λ a b. a ++ b) (one (slice_get vs x)) (picked_are vs xs)
      ∙ sym (ap (λ o. nodes_in (node_ref ports sizes) (option_to_list o ++ operands_at (map (ref_by (position_of ids)) vs) xs)) (slice_get-map (ref_by (position_of ids)) vs x)
      ∙ joined (option_map (ref_by (position_of ids)) (slice_get vs x)))
    where
      joined : (o : Option Ref) → nodes_in (node_ref ports sizes) (option_to_list o ++ operands_at (map (ref_by (position_of ids)) vs) xs)
          ≡ nodes_in (node_ref ports sizes) (option_to_list o) ++ nodes_in (node_ref ports sizes) (operands_at (map (ref_by (position_of ids)) vs) xs)
      joined None = refl
      joined (Some r) = go (node_ref ports sizes r)
        where
          go : (m : Option ℕ) → option_to_list m ++ nodes_in (node_ref ports sizes) (operands_at (map (ref_by (position_of ids)) vs) xs)
              ≡ (option_to_list m ++ []) ++ nodes_in (node_ref ports sizes) (operands_at (map (ref_by (position_of ids)) vs) xs)
          go None = refl
          go (Some n) = refl

      one : (o : Option Value) → option_to_list (option_and_then (value_node layout) o) ≡ nodes_in (node_ref ports sizes) (option_to_list (option_map (ref_by (position_of ids)) o))
      one None = refl
      one (Some v) = ap option_to_list (value_is v) ∙ go (node_ref ports sizes (ref_by (position_of ids) v))
        where
          go : (m : Option ℕ) → option_to_list m ≡ option_to_list m ++ []
          go None = refl
          go (Some n) = refl
