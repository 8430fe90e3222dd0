-- Constants are lowered to constants.
use Rattle.std.proofs.Common.{◌≡◌, ℕ, ◌+◌, ◌<◌, Bool, true, false, cond, ◌&&◌, nat_eq, List, [], ◌∷◌, map, length, Option, Some, None, slice_get, refl, sym, ap, subst, ◌∙◌, inl, inr}
use Rattle.wiring.specs.Wiring.{In}
use Rattle.wiring.proofs.Lists.{slice_get_some}
use Rattle.wiring.proofs.Options.{and_then_some}
use Rattle.wiring.proofs.Members.{In-slice_get}
use Rattle.hw_model.specs.Types.{HwType, leaves}
use Rattle.hw_model.specs.Kinds.{Kind}
use Rattle.hw_model.specs.Kinds.Kind.{constant, aggregate_constant}
use Rattle.hw_model.specs.Design.{Ref, Op, Module, result_type}
use Rattle.hw_model.specs.Design.Ref.{port, result, undefined}
use Rattle.hw_model.specs.Resets.{is_constant}
use Rattle.edit_laws.specs.Edit.{is_anchor}
use Rattle.op_verifier.specs.OpChecks.{is_nonzero_kind, is_nonzero_op, is_nonzero_ref}
use Rattle.op_verifier.specs.ResetChecks.{is_constant_op, is_constant_ref}
use Rattle.aggregate_laws.specs.Leaves.{result_start}
use Rattle.aggregate_laws.specs.Rules.{begin, parts_of_result, leaf_ref, leaf_refs}
use Rattle.aggregate_laws.specs.OperationRules.{made_op, all_leaves, literals_numbers, number_at}
use Rattle.aggregate_laws.specs.Aggregates.{rule_of}
use Rattle.aggregate_laws.proofs.Lists.{from_In-in_row}
use Rattle.aggregate_laws.proofs.Joins.{plain_kind}
use Rattle.aggregate_laws.proofs.Blocks.{block_by}
use Rattle.aggregate_laws.proofs.Bodies.{plain_not_one}
use Rattle.aggregate_acceptance.proofs.MadeRules.{from_for_each}
use Rattle.aggregate_acceptance.proofs.LoweredModules.{Lowering, rules_of, parts_in, new_body, splits_at, stands_at}

-- an operation that a constant becomes
record ComesFrom (o x : Op) : Type 0 where
  constant_is : is_constant x.kind ≡ true
  nonzero : is_nonzero_kind o.kind ≡ true → is_nonzero_kind x.kind ≡ true

constant_plain : (o : Op) → is_constant o.kind ≡ true → is_anchor o ≡ false
constant_plain o is = go o.kind refl is
  where
    go : (kind : Kind) → o.kind ≡ kind → is_constant kind ≡ true → is_anchor o ≡ false
    go (constant z) same one = plain_kind o (constant z) same refl
    go (aggregate_constant ls) same one = plain_kind o (aggregate_constant ls) same refl
    go _ same one = cc

module _ (S : Lowering) (k : ℕ) (m : Module) (at : slice_get S.d k ≡ Some m) where
  -- what a rule makes of it
  made_constant : (o : Op) (kind : Kind) → o.kind ≡ kind → is_constant kind ≡ true → (args : List (List Ref)) (start : ℕ) (x : Op)
      → In x ((rule_of S.named o kind).made args start) → ComesFrom o x
  made_constant o (constant z) same one args start x (inl is) =
      let kind : x.kind ≡ constant z = ap (λ (y : Op). y.kind) is ∙ same in
      record { constant_is = ap is_constant kind; nonzero = λ h. ap is_nonzero_kind (ap (λ (y : Op). y.kind) is) ∙ h }
  made_constant o (constant z) same one args start x (inr never) = absurd never
  made_constant o (aggregate_constant ls) same one args start x here =
      let found = from_for_each (λ i t. made_op o (constant (number_at (literals_numbers ls) i)) [] (t ∷ []) [] t) 0 (all_leaves o) x here in
      record {
        constant_is = ap (λ (y : Op). is_constant y.kind) found.3;
        nonzero = λ h. let clash : false ≡ true = sym (ap is_nonzero_kind same) ∙ h in cc;
      }
  made_constant o _ same one args start x here = cc

  module _ (j : ℕ) (o : Op) (is : slice_get m.body j ≡ Some o) (one : is_constant o.kind ≡ true) where
    -- a leaf of its result
    leaf_constant : (n i : ℕ) (t : HwType) → result_type o n ≡ Some t → i < length (leaves t)
        → (x : Op) × (slice_get (new_body S m) (begin (rules_of S) m.body j + ((rules_of S).rule o).position (result_start o n + i)) ≡ Some x) × ComesFrom o x
    leaf_constant n i t typed below =
        let leaf = slice_get_some (leaves t) i below in
        let made = and_then_some (slice_get (block_by (rules_of S) (parts_in S m) (begin (rules_of S) m.body j) o) (((rules_of S).rule o).position (result_start o n + i))) (λ (x : Op). result_type x 0)
        ((splits_at S k m at o (In-slice_get o m.body j is)).shape.leaf_type (constant_plain o one) (begin (rules_of S) m.body j) n i t leaf.0 typed leaf.1) in (
          made.0,
          stands_at S k m at j o is (((rules_of S).rule o).position (result_start o n + i)) made.0 made.1,
          made_constant o o.kind refl one (map (parts_in S m) o.operands) (begin (rules_of S) m.body j) made.0
              (In-slice_get made.0 (block_by (rules_of S) (parts_in S m) (begin (rules_of S) m.body j) o) (((rules_of S).rule o).position (result_start o n + i)) made.1),
        )

    part_constant : (n : ℕ) (r : Ref) → In r (parts_in S m (result j n))
        → (i : ℕ) × (x : Op) × (r ≡ result i 0) × (slice_get (new_body S m) i ≡ Some x) × ComesFrom o x
    part_constant n r here = go (result_type o n) refl (subst (λ y. In r (parts_of_result (rules_of S) (begin (rules_of S) m.body j) n y)) is here)
      where
        go : (y : Option HwType) → result_type o n ≡ y → In r (leaf_refs ((rules_of S).rule o) (begin (rules_of S) m.body j) o (result_start o n) (result_type o n))
            → (i : ℕ) × (x : Op) × (r ≡ result i 0) × (slice_get (new_body S m) i ≡ Some x) × ComesFrom o x
        go None none there = absurd (subst (λ y. In r (leaf_refs ((rules_of S).rule o) (begin (rules_of S) m.body j) o (result_start o n) y)) none there)
        go (Some t) typed there =
            let found = from_In-in_row (leaf_ref ((rules_of S).rule o) (begin (rules_of S) m.body j) o) (result_start o n) (length (leaves t)) r
            (subst (λ y. In r (leaf_refs ((rules_of S).rule o) (begin (rules_of S) m.body j) o (result_start o n) y)) typed there) in
            let leaf = leaf_constant n found.0 t typed found.1 in (
              begin (rules_of S) m.body j + ((rules_of S).rule o).position (result_start o n + found.0),
              leaf.0,
              found.2
                  ∙ ap (λ b. cond b (result (begin (rules_of S) m.body j) (result_start o n + found.0)) (result (begin (rules_of S) m.body j + ((rules_of S).rule o).position (result_start o n + found.0)) 0))
                  (plain_not_one o (constant_plain o one)),
              leaf.1,
              leaf.2,
            )

  -- what stands for the result of a constant is one
  pub constant_kept : (r r' : Ref) → is_constant_ref m.body r ≡ true → In r' (parts_in S m r) → is_constant_ref (new_body S m) r' ≡ true
  constant_kept (port j) r' one here = cc
  constant_kept undefined r' one here = cc
  constant_kept (result j n) r' one here = go (slice_get m.body j) refl one
    where
      go : (y : Option Op) → slice_get m.body j ≡ y → is_constant_op y ≡ true → is_constant_ref (new_body S m) r' ≡ true
      go None is own = cc
      go (Some o) is own =
          let found = part_constant j o is own n r' here in
          ap (is_constant_ref (new_body S m)) found.2 ∙ ap is_constant_op found.3 ∙ found.4.constant_is

  nonzero_constant : (kind : Kind) → is_nonzero_kind kind ≡ true → is_constant kind ≡ true
  nonzero_constant (constant z) one = refl
  nonzero_constant _ one = cc

  -- and of a nonzero constant it is a nonzero one
  pub nonzero_kept : (r r' : Ref) → is_nonzero_ref m.body (Some r) ≡ true → In r' (parts_in S m r) → is_nonzero_ref (new_body S m) (Some r') ≡ true
  nonzero_kept (port j) r' one here = cc
  nonzero_kept undefined r' one here = cc
  nonzero_kept (result j n) r' one here = go (slice_get m.body j) refl (second (nat_eq n 0) (is_nonzero_op (slice_get m.body j)) one)
    where
      second : (a b : Bool) → (a && b) ≡ true → b ≡ true
      second true b both = both
      second false b both = cc

      go : (y : Option Op) → slice_get m.body j ≡ y → is_nonzero_op y ≡ true → is_nonzero_ref (new_body S m) (Some r') ≡ true
      go None is own = cc
      go (Some o) is own =
          let found = part_constant j o is (nonzero_constant o.kind own) n r' here in
          ap (λ (q : Ref). is_nonzero_ref (new_body S m) (Some q)) found.2 ∙ ap is_nonzero_op found.3 ∙ found.4.nonzero own
