-- The body of a module of a fit design, by its leaves.
use Rattle.std.proofs.Common.{◌≡◌, ℕ, suc, ◌+◌, Bool, true, false, cond, List, [], ◌∷◌, ◌++◌, length, map, refl, sym, ap, subst, ◌∙◌, arith, inl, inr}
use Rattle.std.proofs.lemmas.List.{length-map}
use Rattle.wiring.specs.Wiring.{In}
use Rattle.wiring.proofs.Members.{In-map, from_In-map}
use Rattle.hw_model.specs.Design.{Ref, Port, Op, Design}
use Rattle.edit_laws.specs.Edit.{retarget}
use Rattle.edit_laws.specs.Falls.{LocalHeight}
use Rattle.acceptance_laws.specs.Keeps.{IsFit}
use Rattle.ir_store.specs.declared.body.Body.{Body}
use Rattle.ir_store.specs.declared.operation.NewOp.{NewOp}
use Rattle.ir_store.specs.declared.operation.Value.{Value}
use Rattle.ir_store.specs.Bodies.{ids_of, ops_of, op_id}
use Rattle.ir_store.specs.BodyOps.{BodyOp, ids_in}
use Rattle.ir_store.specs.Live.{AreDistinct}
use Rattle.ir_store.specs.Numbered.{position_of, op_by, ops_by_position}
use Rattle.ir_store.proofs.BodyLemmas.{ids_once}
use Rattle.inline_laws.specs.Unwire.{unwire}
use Rattle.aggregate_laws.specs.Rules.{Rules, count_by, blocks, parts_of}
use Rattle.aggregate_acceptance.specs.Joins.{only_joins, without_joins}
use Rattle.lowering_rules.specs.declared.leaf_table.LeafTable.{LeafTable}
use Rattle.lowering_rules.specs.LeafTables.{starts_from, IsLeafTable}
use Rattle.lowering_rules.specs.LoweringRules.{lowering_rules}
use Rattle.lowering_rules.specs.Made.{made_in}
use Rattle.lowering_rules.specs.Reading.{new_ref, new_refs}
use Rattle.aggregate_lower.specs.declared.made.Made.{Made}
use Rattle.aggregate_lower.specs.Targets.{MadeOp, wire_flags, ops_made, ops_kept, targets_from, moved_ref, IsNamed, Places}
use Rattle.aggregate_lower.specs.Targets.MadeOp.{wire, kept}
use Rattle.aggregate_lower.specs.MadeBodies.{numbered_from, block_made, blocks_made, all_made_by, all_made, joined_body, HasBody, IsMade, IsJoined, AreMoved, CanSettle}
use Rattle.aggregate_lower.proofs.BlocksMade.{block_same, blocks_same}
use Rattle.aggregate_lower.proofs.Erasing.{out}
use Rattle.aggregate_lower.proofs.LeftWires.{targets_many, LeftOf, left_of, settled_left}
use Rattle.aggregate_lower.proofs.MadeParts.{flags-append, made_many, made_blocks, made_bare}
use Rattle.aggregate_lower.proofs.NumberedBodies.{numbered_seen}
use Rattle.aggregate_lower.proofs.OperandsTyped.{IsWellNamed, well_named}
use Rattle.aggregate_lower.proofs.Settled.{moved_place}

-- ---- wires leave block by block

out_wires : (i : ℕ) (os : List Op) (flags : List Bool) (body : List Op) → out i (wire_flags (map wire os) ++ flags) body ≡ out i flags (unwire i (length os) body)
out_wires i [] flags body = refl
out_wires i (o ∷ os) flags body = out_wires i os flags _

out_kept : (i : ℕ) (os : List Op) (flags : List Bool) (body : List Op) → out i (wire_flags (map kept os) ++ flags) body ≡ out (i + length os) flags body
out_kept i [] flags body = let same : i ≡ i + 0 = omega arith in ap (λ n. out n flags body) same
out_kept i (o ∷ os) flags body = let next : suc i + length os ≡ i + suc (length os) = omega arith in out_kept (suc i) os flags body ∙ ap (λ n. out n flags body) next

module _ (d : Design) (t : LeafTable) (position : ℕ → ℕ) where
  -- each block has as many operations as its rule says
  abbrev HaveSizes : List BodyOp → Type 0
  HaveSizes ops = (o : BodyOp) → In o ops → (start : ℕ) → length (block_made d t o start) ≡ count_by (lowering_rules d) (op_by position o)

  all_leave : (ops : List BodyOp) → HaveSizes ops → (start i : ℕ) (body : List Op)
      → out i (wire_flags (all_made d t ops (starts_from (lowering_rules d) start (map (op_by position) ops)))) body ≡ without_joins (lowering_rules d) i (map (op_by position) ops) body
  all_leave [] sizes start i body = refl
  all_leave (o ∷ ops) sizes start i body =
      ap (λ fs. out i fs body) (flags-append (all_made_by (only_joins o.parts.kind) own) rest)
      ∙ go (only_joins o.parts.kind) (all_leave ops (λ p here. sizes p (inr here)) (start + count))
    where
      count : ℕ
      count = count_by (lowering_rules d) (op_by position o)

      own : List Op
      own = block_made d t o start

      rest : List MadeOp
      rest = all_made d t ops (starts_from (lowering_rules d) (start + count_by (lowering_rules d) (op_by position o)) (map (op_by position) ops))

      size : length (block_made d t o start) ≡ count_by (lowering_rules d) (op_by position o)
      size = sizes o (inl refl) start

      go : (b : Bool) → ((i : ℕ) (body : List Op) → out i (wire_flags rest) body ≡ without_joins (lowering_rules d) i (map (op_by position) ops) body)
          → out i (wire_flags (all_made_by b own) ++ wire_flags rest) body
          ≡ cond b (without_joins (lowering_rules d) i (map (op_by position) ops) (unwire i count body)) (without_joins (lowering_rules d) (i + count) (map (op_by position) ops) body)
      go true leave = out_wires i own (wire_flags rest) body ∙ leave i (unwire i (length own) body) ∙ ap (λ n. without_joins (lowering_rules d) i (map (op_by position) ops) (unwire i n body)) size
      go false leave = out_kept i own (wire_flags rest) body ∙ leave (i + length own) body ∙ ap (λ n. without_joins (lowering_rules d) (i + n) (map (op_by position) ops) body) size

-- ---- operations settled

-- what is left is a body, and its operands are there
settles : (os : List Op) (xs : List MadeOp) (known : LeftOf xs) → out 0 (wire_flags xs) (ops_made xs) ≡ os → (kept_ops : List NewOp) → made_in kept_ops ≡ ops_kept xs
    → CanSettle os (wire_flags xs) (targets_from 0 xs) kept_ops
settles os xs known left kept_ops kept_are = record {
  many = targets_many 0 xs;
  places_are = known.places_are;
  becomes = λ moved m. record {
    are = m.are ∙ ap (map (retarget (moved_ref (wire_flags xs) m.targets))) kept_are ∙ settled_left xs known m.targets m.settled ∙ left;
    named = names moved m;
  };
}
  where
    names : (moved : List NewOp) → AreMoved (wire_flags xs) (targets_from 0 xs) known.places_are kept_ops moved → (o : Op) (r : Ref) → In o (made_in moved) → In r o.operands → IsNamed (length moved) r
    names moved m o r here among =
        let g = moved_ref (wire_flags xs) m.targets in
        let are : made_in moved ≡ map (retarget g) (ops_kept xs) = m.are ∙ ap (map (retarget g)) kept_are in
        let from = from_In-map (retarget g) o (ops_kept xs) (subst (In o) are here) in
        let named = from_In-map g r from.0.operands (subst (λ (x : Op). In r x.operands) from.2 among) in
        let known_there = known.named from.0 named.0 from.1 named.1 in
        let goes : r ≡ known.places_are.place named.0 = named.2 ∙ moved_place (wire_flags xs) (targets_from 0 xs) known.places_are m.targets m.settled named.0 known_there in
        let many : length (ops_kept xs) ≡ length moved = sym (length-map (ops_kept xs) (retarget g)) ∙ sym (ap length are) ∙ made_many moved in
        subst (λ n. IsNamed n r) many (subst (IsNamed (length (ops_kept xs))) (sym goes) (known.there named.0 known_there))

pub settles_by : (os : List Op) (xs : List MadeOp) (known : LeftOf xs) → out 0 (wire_flags xs) (ops_made xs) ≡ os → (made : Made) → IsMade xs made
    → CanSettle os made.flags.items (new_refs made.targets.items) made.kept.items
settles_by os xs known left made is =
    subst (λ flags. CanSettle os flags (new_refs made.targets.items) made.kept.items) (sym is.flags_are)
    (subst (λ ts. CanSettle os (wire_flags xs) ts made.kept.items) (sym is.targets_are) (settles os xs known left made.kept.items is.kept_are))

module _ (os : List Op) (flags flags' : List Bool) (ts ts' : List Value) (kept_ops : List NewOp) (can : CanSettle os flags (new_refs ts) kept_ops) (flags_are : flags' ≡ flags) (ts_are : ts' ≡ ts) where
  can_by : CanSettle os flags' (new_refs ts') kept_ops
  can_by = subst (λ fs. CanSettle os fs (new_refs ts') kept_ops) (sym flags_are) (subst (λ vs. CanSettle os flags (new_refs vs) kept_ops) (sym ts_are) can)

  pub many_by : length ts' ≡ length flags'
  many_by = sym (length-map ts' new_ref) ∙ can_by.many

  pub joined_by : (moved : List NewOp) → ((s : Places flags' (new_refs ts')) → AreMoved flags' (new_refs ts') s kept_ops moved) → IsJoined os moved
  joined_by moved moves = can_by.becomes moved (moves can_by.places_are)

-- ---- the body

many_starts : (rules : Rules) (start : ℕ) (os : List Op) → length (starts_from rules start os) ≡ length os
many_starts rules start [] = refl
many_starts rules start (o ∷ os) = ap suc (many_starts rules (start + count_by rules o) os)

module _ (d : Design) (ps : List Port) (b : Body) (t : LeafTable) (table : IsLeafTable (lowering_rules d) ps b t) where
  ids_many : length t.ids.items ≡ length (ops_by_position (ops_of b))
  ids_many =
      ap length table.ids ∙ length-map (ids_of b) op_id ∙ length-map (ops_of b) (λ (o : BodyOp). o.id)
      ∙ sym (length-map (ops_of b) (op_by (position_of (ids_of b))))

  pub starts_many : length t.starts.items ≡ length t.ids.items
  starts_many = ap length table.starts ∙ many_starts (lowering_rules d) 0 (ops_by_position (ops_of b)) ∙ sym ids_many

  module _ (fit : IsFit d) (has : HasBody d ps (ops_by_position (ops_of b))) where
    abbrev all_blocks : List Op
    all_blocks = blocks (lowering_rules d) (parts_of (lowering_rules d) ps (ops_by_position (ops_of b))) 0 (ops_by_position (ops_of b))

    abbrev parts_made : List MadeOp
    parts_made = all_made d t (ops_of b) t.starts.items

    named : IsWellNamed (lowering_rules d) ps (ops_by_position (ops_of b))
    named = well_named d fit ps (ops_by_position (ops_of b)) has

    blocks_are : ops_made (all_made d t (ops_of b) t.starts.items) ≡ all_blocks
    blocks_are =
        made_blocks d t (ops_of b) t.starts.items ∙ ap (blocks_made d t (ops_of b)) table.starts
        ∙ blocks_same d t (parts_of (lowering_rules d) ps (ops_by_position (ops_of b))) (position_of (ids_of b)) (ops_of b) (λ o here v among. table.values v) 0

    sizes : (o : BodyOp) → In o (ops_of b) → (start : ℕ) → length (block_made d t o start) ≡ count_by (lowering_rules d) (op_by (position_of (ids_of b)) o)
    sizes o here start =
        ap length (block_same d t (parts_of (lowering_rules d) ps (ops_by_position (ops_of b))) (position_of (ids_of b)) o (λ v among. table.values v) start)
        ∙ named.sizes (op_by (position_of (ids_of b)) o) (In-map (op_by (position_of (ids_of b))) o (ops_of b) here) start

    left_is : out 0 (wire_flags (all_made d t (ops_of b) t.starts.items)) (ops_made (all_made d t (ops_of b) t.starts.items)) ≡ joined_body (lowering_rules d) ps (ops_by_position (ops_of b))
    left_is =
        ap (out 0 (wire_flags (all_made d t (ops_of b) t.starts.items))) blocks_are
        ∙ ap (λ starts. out 0 (wire_flags (all_made d t (ops_of b) starts)) all_blocks) table.starts
        ∙ all_leave d t (position_of (ids_of b)) (ops_of b) sizes 0 0 all_blocks

    known : LeftOf (all_made d t (ops_of b) t.starts.items)
    known = left_of (all_made d t (ops_of b) t.starts.items) named.heights.0
        (subst (λ (os : List Op). LocalHeight os named.heights.0) (sym blocks_are) named.heights.1)
        (made_bare d t (ops_of b) t.starts.items)
        (subst (λ (os : List Op). (o : Op) (r : Ref) → In o os → In r o.operands → IsNamed (length os) r) (sym blocks_are) named.below)

    pub body_settles : (made : Made) → IsMade (all_made d t (ops_of b) t.starts.items) made
        → CanSettle (joined_body (lowering_rules d) ps (ops_by_position (ops_of b))) made.flags.items (new_refs made.targets.items) made.kept.items
    body_settles made is = settles_by (joined_body (lowering_rules d) ps (ops_by_position (ops_of b))) (all_made d t (ops_of b) t.starts.items) known left_is made is

-- its operations by positions
pub body_joined : (os : List Op) (moved : List NewOp) → IsJoined os moved → (new : Body) → ops_of new ≡ numbered_from 0 moved → ops_by_position (ops_of new) ≡ os
body_joined os moved joined new is =
    ap ops_by_position is ∙ numbered_seen moved (subst (λ (ops : List BodyOp). AreDistinct (ids_in ops)) is (ids_once new)) joined.named ∙ joined.are
