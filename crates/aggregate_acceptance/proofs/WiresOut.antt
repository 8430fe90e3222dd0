-- The wires of operations that only join or take apart are taken out of a lowered design: it follows, and stays fit.
use Rattle.std.proofs.Common.{◌≡◌, ℕ, ◌+◌, Bool, true, false, cond, List, [], ◌∷◌, ◌++◌, length, map, set, Some, slice_get, refl, sym, ap, subst, ◌∙◌, inl, inr, append_assoc, length-append}
use Rattle.std.proofs.lemmas.List.{length-map, map-append}
use Rattle.std.proofs.lemmas.List.Elements.{filter-append}
use Rattle.std.proofs.lemmas.Option.{slice_get_within}
use Rattle.wiring.specs.Wiring.{In}
use Rattle.wiring.proofs.Lists.{slice_get-append_at, slice_get-set_same, set_some}
use Rattle.wiring.proofs.Members.{position_of_In, from_In-map}
use Rattle.hw_model.specs.Types.{Name}
use Rattle.hw_model.specs.Kinds.{Kind}
use Rattle.hw_model.specs.Kinds.ArrayOp.{array_create, array_concat}
use Rattle.hw_model.specs.Kinds.StructOp.{struct_create, struct_extract, struct_inject, struct_explode}
use Rattle.hw_model.specs.Kinds.Kind.{on_array, on_struct, wire}
use Rattle.hw_model.specs.Value.{fields, nth_type}
use Rattle.hw_model.specs.Design.{Ref, Port, Op, Module, Design}
use Rattle.edit_laws.specs.Edit.{retarget, is_anchor, anchors}
use Rattle.edit_laws.specs.Follows.{Follows}
use Rattle.edit_laws.specs.Laws.{with_body}
use Rattle.edit_laws.proofs.Follows.{follows_then, follows_self}
use Rattle.edit_laws.proofs.Positions.{anchors-retarget}
use Rattle.acceptance_laws.specs.Keeps.{IsFit}
use Rattle.pass_laws.specs.Steady.{SameShape, IsSteady}
use Rattle.pass_laws.proofs.Shapes.{shape_from_anchors}
use Rattle.pass_laws.proofs.Steady.{steady_self, steady_then, steady_with_body}
use Rattle.inline_laws.specs.Unwire.{unwire}
use Rattle.inline_laws.proofs.WithoutWires.{IsBareWire, Others, bare_retarget, others_stay, set_twice, unwire_all_preserves}
use Rattle.aggregate_laws.specs.Leaves.{part}
use Rattle.aggregate_laws.specs.Rules.{Rules, count_by, blocks, lowered_module}
use Rattle.aggregate_laws.specs.OperationRules.{made_op, all_leaves, for_each, joined_parts, argument, field_parts, with_field_parts}
use Rattle.aggregate_laws.specs.Aggregates.{rule_of, aggregate_rules}
use Rattle.aggregate_laws.proofs.Blocks.{block_by, anchors_none}
use Rattle.aggregate_acceptance.specs.Names.{NamesPorts, NamesInstances}
use Rattle.aggregate_acceptance.specs.Joins.{only_joins, without_joins, joined_module, joined_design}
use Rattle.pass_laws.proofs.FitWithoutWires.{fit_without_wires}
use Rattle.aggregate_acceptance.proofs.MadeRules.{from_for_each}
use Rattle.aggregate_acceptance.proofs.LoweredModules.{Lowering, rules_of, lowered, follows_lowered, parts_in, new_body, splits_at}
use Rattle.aggregate_acceptance.proofs.LoweredFit.{lowering_fit}

-- ---- blocks, but for operands

-- the operations from somewhere on are the blocks of these operations: those of one that only joins are wires
abbrev AreBlocks : Rules → List Op → List Op → Type 0
AreBlocks rules [] tail = tail ≡ []
AreBlocks rules (o ∷ os) tail =
    (ws : List Op) × (rest : List Op) × (tail ≡ ws ++ rest) × (length ws ≡ count_by rules o) × (only_joins o.kind ≡ true → (y : Op) → In y ws → IsBareWire y)
    × AreBlocks rules os rest

blocks_retarget : (rules : Rules) (f : Ref → Ref) (os tail : List Op) → AreBlocks rules os tail → AreBlocks rules os (map (retarget f) tail)
blocks_retarget rules f [] tail none = ap (map (retarget f)) none
blocks_retarget rules f (o ∷ os) tail (ws, rest, tail_is, size, bare, more) = (
  map (retarget f) ws,
  map (retarget f) rest,
  ap (map (retarget f)) tail_is ∙ map-append (retarget f) ws rest,
  length-map ws (retarget f) ∙ size,
  (λ joins y here.
      let from = from_In-map (retarget f) y ws here in
      subst IsBareWire (sym from.2) (bare_retarget f from.0 (bare joins from.0 from.1))),
  blocks_retarget rules f os rest more,
)

-- a fit design that follows from another one, with the same headers, registers and instances
record IsFitAfter (d e : Design) : Type 0 where
  follows : Follows d e
  steady : IsSteady d e

-- a body keeps its shape without wires between two parts
shape_unwired : (n : ℕ) (prefix ws back : List Op) → length ws ≡ n → ((y : Op) → In y ws → IsBareWire y)
    → SameShape (prefix ++ (ws ++ back)) (unwire (length prefix) n (prefix ++ (ws ++ back)))
shape_unwired n prefix ws back size bare =
    shape_from_anchors (prefix ++ (ws ++ back)) (unwire (length prefix) n (prefix ++ (ws ++ back))) others.stand
    (ap anchors (others.body_is ∙ sym (map-append (retarget others.stand) prefix back))
    ∙ anchors-retarget others.stand (prefix ++ back)
    ∙ ap (map (retarget others.stand)) (filter-append is_anchor prefix back ∙ sym anchors_there))
  where
    others : Others prefix back (unwire (length prefix) n (prefix ++ (ws ++ back)))
    others = others_stay n prefix ws back size

    no_anchor : (y : Op) → In y ws → is_anchor y ≡ false
    no_anchor y here = subst (λ k. is_anchor (record y { kind = k }) ≡ false) (sym (bare y here).kind_is) refl

    anchors_there : anchors (prefix ++ (ws ++ back)) ≡ anchors prefix ++ anchors back
    anchors_there =
        filter-append is_anchor prefix (ws ++ back)
        ∙ ap (λ xs. anchors prefix ++ xs) (filter-append is_anchor ws back ∙ ap (λ xs. xs ++ anchors back) (anchors_none ws no_anchor))

-- without the wires of some operations, in one module
joins_out : (rules : Rules) (os prefix tail : List Op) → AreBlocks rules os tail → (d : Design) (k : ℕ) (m : Module) → IsFit d → slice_get d k ≡ Some m → m.body ≡ prefix ++ tail
    → IsFitAfter d (with_body d k m (without_joins rules (length prefix) os m.body))
joins_out rules [] prefix tail none d k m fit at body_is =
    subst (IsFitAfter d) (sym (set_some d k m at)) (record { follows = follows_self d fit.valid; steady = steady_self d fit })
joins_out rules (o ∷ os) prefix tail (ws, rest, tail_is, size, bare, more) d k m fit at body_is =
    go (only_joins o.kind) refl (joins_out rules os)
  where
    body_here : m.body ≡ prefix ++ (ws ++ rest)
    body_here = body_is ∙ ap (λ zs. prefix ++ zs) tail_is

    go : (b : Bool) → only_joins o.kind ≡ b
        → ((prefix tail : List Op) → AreBlocks rules os tail → (d : Design) (k : ℕ) (m : Module) → IsFit d → slice_get d k ≡ Some m → m.body ≡ prefix ++ tail
        → IsFitAfter d (with_body d k m (without_joins rules (length prefix) os m.body)))
        → IsFitAfter d (with_body d k m
        (cond b (without_joins rules (length prefix) os (unwire (length prefix) (count_by rules o) m.body)) (without_joins rules (length prefix + count_by rules o) os m.body)))
    go false stays rec =
        subst (λ n. IsFitAfter d (with_body d k m (without_joins rules n os m.body))) (length-append prefix ws ∙ ap (λ n. length prefix + n) size)
        (rec (prefix ++ ws) rest more d k m fit at (body_here ∙ sym (append_assoc prefix ws rest)))
    go true joins rec = record { follows = follows_then d d1 _ first once.follows; steady = steady_then d d1 _ own once.steady }
      where
        m1 : Module
        m1 = record m { body = unwire (length prefix) (count_by rules o) m.body }

        d1 : Design
        d1 = with_body d k m (unwire (length prefix) (count_by rules o) m.body)

        fit1 : IsFit d1
        fit1 = fit_without_wires (count_by rules o) prefix ws rest size (bare joins) d k m fit at body_here

        first : Follows d d1
        first = (unwire_all_preserves (count_by rules o) prefix ws rest size (bare joins) d k m fit.valid at body_here).follows

        own : IsSteady d d1
        own =
            steady_with_body d k m (unwire (length prefix) (count_by rules o) m.body) at first fit1
            (subst (λ os. SameShape os (unwire (length prefix) (count_by rules o) os)) (sym body_here) (shape_unwired (count_by rules o) prefix ws rest size (bare joins)))

        others : Others prefix rest (unwire (length prefix) (count_by rules o) (prefix ++ (ws ++ rest)))
        others = others_stay (count_by rules o) prefix ws rest size

        once : IsFitAfter d1 (with_body d k m (without_joins rules (length prefix) os (unwire (length prefix) (count_by rules o) m.body)))
        once =
            subst (IsFitAfter d1) (set_twice d k m1 (record m { body = without_joins rules (length prefix) os (unwire (length prefix) (count_by rules o) m.body) }))
            (subst (λ n. IsFitAfter d1 (set d1 k (record m { body = without_joins rules n os (unwire (length prefix) (count_by rules o) m.body) }))) (length-map prefix (retarget others.stand))
            (rec (map (retarget others.stand) prefix) (map (retarget others.stand) rest) (blocks_retarget rules others.stand os rest more) d1 k m1 fit1
            (slice_get-set_same d k m1 (slice_get_within d k m at)) (ap (unwire (length prefix) (count_by rules o)) body_here ∙ others.body_is)))

-- ---- lowered bodies

-- a wire for each leaf
made_wires : (o : Op) (names : ℕ → Name) (chosen : List Ref) (y : Op)
    → In y (for_each (λ i t. made_op o wire (part chosen i ∷ []) (t ∷ []) (names i) t) 0 (all_leaves o)) → IsBareWire y
made_wires o names chosen y here =
    let found = from_for_each (λ i t. made_op o wire (part chosen i ∷ []) (t ∷ []) (names i) t) 0 (all_leaves o) y here in
    subst IsBareWire (sym found.3) (record { operand = part chosen (0 + found.0); type = found.1; kind_is = refl; operand_is = refl; result_is = refl })

joins_wires : (S : Lowering) (o : Op) (kind : Kind) → only_joins kind ≡ true → (args : List (List Ref)) (start : ℕ) (y : Op) → In y ((rule_of S.named o kind).made args start) → IsBareWire y
joins_wires S o (on_array array_create) joins args start y here = made_wires o (λ i. []) (joined_parts args) y here
joins_wires S o (on_array array_concat) joins args start y here = made_wires o (λ i. []) (joined_parts args) y here
joins_wires S o (on_struct struct_create) joins args start y here = made_wires o (λ i. []) (joined_parts args) y here
joins_wires S o (on_struct (struct_extract name)) joins args start y here = made_wires o (λ i. []) (field_parts (fields (nth_type o.types 0)) name (argument 0 args)) y here
joins_wires S o (on_struct (struct_inject name)) joins args start y here =
    made_wires o (λ i. []) (with_field_parts (fields (nth_type o.types 0)) name (argument 0 args) (argument 1 args)) y here
joins_wires S o (on_struct struct_explode) joins args start y here = made_wires o (λ i. []) (joined_parts args) y here
joins_wires S o _ joins args start y here = cc

module _ (S : Lowering) (k : ℕ) (m : Module) (at : slice_get S.d k ≡ Some m) where
  block_rules : (os : List Op) → ((o : Op) → In o os → In o m.body) → (start : ℕ) → AreBlocks (rules_of S) os (blocks (rules_of S) (parts_in S m) start os)
  block_rules [] among start = refl
  block_rules (o ∷ os) among start = (
    block_by (rules_of S) (parts_in S m) start o,
    blocks (rules_of S) (parts_in S m) (start + count_by (rules_of S) o) os,
    refl,
    (splits_at S k m at o (among o (inl refl))).shape.size start,
    (λ joins y here. joins_wires S o o.kind joins (map (parts_in S m) o.operands) start y here),
    block_rules os (λ p here. among p (inr here)) (start + count_by (rules_of S) o),
  )

-- ---- all modules

set_between : {A : Type 0} (xs : List A) (x y : A) (ys : List A) → set (xs ++ x ∷ ys) (length xs) y ≡ xs ++ y ∷ ys
set_between [] x y ys = refl
set_between (z ∷ xs) x y ys = ap (λ zs. z ∷ zs) (set_between xs x y ys)

module _ (S : Lowering) where
  -- modules from somewhere on
  modules_out : (done : Design) (ms : List Module) → ((m : Module) → In m ms → (k : ℕ) × (slice_get S.d k ≡ Some m)) → IsFit (done ++ map (lowered_module (rules_of S)) ms)
      → IsFitAfter (done ++ map (lowered_module (rules_of S)) ms) (done ++ map (joined_module (rules_of S)) ms)
  modules_out done [] among fit = record { follows = follows_self (done ++ []) fit.valid; steady = steady_self (done ++ []) fit }
  modules_out done (m ∷ ms) among fit = finish (modules_out (done ++ joined_module (rules_of S) m ∷ []) ms (λ n here. among n (inr here)))
    where
      d0 : Design
      d0 = done ++ lowered_module (rules_of S) m ∷ map (lowered_module (rules_of S)) ms

      position : (k : ℕ) × (slice_get S.d k ≡ Some m)
      position = among m (inl refl)

      first : IsFitAfter d0 (done ++ joined_module (rules_of S) m ∷ map (lowered_module (rules_of S)) ms)
      first =
          subst (IsFitAfter d0) (set_between done (lowered_module (rules_of S) m) (joined_module (rules_of S) m) (map (lowered_module (rules_of S)) ms))
          (joins_out (rules_of S) m.body [] (new_body S m) (block_rules S position.0 m position.1 m.body (λ o here. here) 0) d0 (length done) (lowered_module (rules_of S) m) fit
          (slice_get-append_at done (lowered_module (rules_of S) m) (map (lowered_module (rules_of S)) ms)) refl)

      moved : (n : Module) (ns : List Module) → (done ++ n ∷ []) ++ ns ≡ done ++ n ∷ ns
      moved n ns = append_assoc done (n ∷ []) ns

      finish : (IsFit ((done ++ joined_module (rules_of S) m ∷ []) ++ map (lowered_module (rules_of S)) ms)
          → IsFitAfter ((done ++ joined_module (rules_of S) m ∷ []) ++ map (lowered_module (rules_of S)) ms) ((done ++ joined_module (rules_of S) m ∷ []) ++ map (joined_module (rules_of S)) ms))
          → IsFitAfter (done ++ lowered_module (rules_of S) m ∷ map (lowered_module (rules_of S)) ms) (done ++ joined_module (rules_of S) m ∷ map (joined_module (rules_of S)) ms)
      finish rest =
          let next = rest (subst IsFit (sym (moved (joined_module (rules_of S) m) (map (lowered_module (rules_of S)) ms))) first.steady.fit) in
          let later : IsFitAfter (done ++ joined_module (rules_of S) m ∷ map (lowered_module (rules_of S)) ms) (done ++ joined_module (rules_of S) m ∷ map (joined_module (rules_of S)) ms) =
          subst (λ x. IsFitAfter x (done ++ joined_module (rules_of S) m ∷ map (joined_module (rules_of S)) ms)) (moved (joined_module (rules_of S) m) (map (lowered_module (rules_of S)) ms))
          (subst (IsFitAfter ((done ++ joined_module (rules_of S) m ∷ []) ++ map (lowered_module (rules_of S)) ms)) (moved (joined_module (rules_of S) m) (map (joined_module (rules_of S)) ms)) next) in
          record {
            steady = steady_then d0 (done ++ joined_module (rules_of S) m ∷ map (lowered_module (rules_of S)) ms) (done ++ joined_module (rules_of S) m ∷ map (joined_module (rules_of S)) ms)
                first.steady later.steady;
            follows = follows_then d0 (done ++ joined_module (rules_of S) m ∷ map (lowered_module (rules_of S)) ms) (done ++ joined_module (rules_of S) m ∷ map (joined_module (rules_of S)) ms)
                first.follows later.follows;
          }

  joined_after : IsFitAfter (lowered S) (joined_design (rules_of S) S.d)
  joined_after = modules_out [] S.d (λ m here. position_of_In m S.d here) (lowering_fit S)

  pub joined_fit : IsFit (joined_design (rules_of S) S.d)
  joined_fit = joined_after.steady.fit

  pub joined_steady : IsSteady (lowered S) (joined_design (rules_of S) S.d)
  joined_steady = joined_after.steady

  pub joined_follows : Follows (lowered S) (joined_design (rules_of S) S.d)
  joined_follows = joined_after.follows

pub joins_fit : (split : List Port → List Port) (named : Op → Kind) (d : Design) → IsFit d → NamesPorts split d → NamesInstances split d named
    → IsFit (joined_design (aggregate_rules split named) d)
joins_fit split named d fit ports instances = joined_fit (record { split = split; named = named; d = d; fit = fit; ports = ports; instances = instances })

pub joins_follow : (split : List Port → List Port) (named : Op → Kind) (d : Design) → IsFit d → NamesPorts split d → NamesInstances split d named
    → Follows d (joined_design (aggregate_rules split named) d)
joins_follow split named d fit ports instances =
    follows_then d (lowered S) (joined_design (rules_of S) d) (follows_lowered S) (joined_follows S)
  where
    S : Lowering
    S = record { split = split; named = named; d = d; fit = fit; ports = ports; instances = instances }
