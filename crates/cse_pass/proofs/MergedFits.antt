-- A fit design stays fit, and does what it did, where an operation is merged with an equal one before it; no module is heavier.
use Rattle.std.proofs.Common.{◌≡◌, ◌+◌, ◌≤◌, ℕ, zero, suc, ℤ, true, false, List, [], ◌∷◌, length, map, remove, Option, Some, None, slice_get, refl, sym, ap, ap₂, subst, ◌∙◌, arith, option_and_then}
use Rattle.std.specs.Prelude.{is_some, slice_index_or}
use Rattle.std.proofs.lemmas.Option.{slice_get-map}
use Rattle.bits_core.specs.Word.{Word}
use Rattle.hw_model.specs.Types.{Name, HwType}
use Rattle.hw_model.specs.Types.HwType.{int}
use Rattle.hw_model.specs.Kinds.{Kind}
use Rattle.hw_model.specs.Kinds.Kind.{constant, instance, output, register, async_firreg}
use Rattle.hw_model.specs.Resets.{is_constant}
use Rattle.hw_model.specs.Design.{Ref, OpResult, Op, Module, Design, result_type}
use Rattle.hw_model.specs.Design.Ref.{port, result, undefined}
use Rattle.hw_model.specs.Sound.{type_in}
use Rattle.hw_model.specs.Value.{op_value}
use Rattle.hw_model.specs.Weight.{kind_weight, body_weight, weight}
use Rattle.type_inference.specs.ResultTypes.{result_type as type_of_result, result_types as types_of_results}
use Rattle.op_verifier.specs.OpChecks.{is_nonzero_kind, settled_type, divides_by_constant}
use Rattle.op_verifier.proofs.NoCauseAlone.{NoCauseAlone, types_of, no_cause_alone, result_number}
use Rattle.edit_laws.specs.Edit.{retarget, result_word}
use Rattle.edit_laws.specs.Laws.{down, without, erase_op, with_body}
use Rattle.edit_laws.proofs.Positions.{down_none}
use Rattle.edit_laws.proofs.Weights.{weight-retarget, weight_taken_out, weight_with_body}
use Rattle.acceptance_laws.specs.Asked.{operand_in, AllowsMore}
use Rattle.acceptance_laws.specs.Keeps.{IsFit, KeepsAsked}
use Rattle.acceptance_laws.proofs.Edited.{allows_itself, plain_parts, fit_after}
use Rattle.acceptance_laws.proofs.Ends.{ends_retarget, ends_remove}
use Rattle.acceptance_laws.proofs.FitBodies.{settled_result, own_cause_none, operand_there}
use Rattle.acceptance_laws.proofs.Values.{result_operand, operand_retarget, result_allows}
use Rattle.pass_laws.specs.Steady.{IsSteady}
use Rattle.pass_laws.proofs.Shapes.{shape_from_anchors}
use Rattle.pass_laws.proofs.Steady.{steady_with_body}
use Rattle.fold_laws.specs.Unused.{is_pure}
use Rattle.fold_laws.proofs.MadeKinds.{anchors_kind}
use Rattle.cse_pass.specs.EqualOps.{value_kind, EqualFound}
use Rattle.cse_pass.specs.Merges.{merged_ref, merge_op}
use Rattle.cse_pass.proofs.ConstantTypes.{IsNumber, number_own, constant_results, one_result, pure_value, constant_value}
use Rattle.cse_pass.proofs.ConstantWords.{kind_word, nonzero_too}
use Rattle.cse_pass.proofs.EqualParts.{equal_ops_parts}
use Rattle.cse_pass.proofs.Merging.{stand_at, stand_for, typed_result, Merged, merged_there, first_stays, merged_valid, merged_follows, body_is}

pure_plain : (kind : Kind) → is_pure kind ≡ true → anchors_kind kind ≡ false
pure_plain (instance i) is = cc
pure_plain output is = cc
pure_plain (register f r) is = cc
pure_plain async_firreg is = cc
pure_plain _ is = refl

-- the type that a constant settles
constant_settles : (kind : Kind) (ts : List HwType) (n w : ℕ) (y : ℤ) → kind ≡ constant y → ts ≡ int w ∷ [] → slice_index_or (types_of_results kind ts n) 0 None ≡ Some (int w)
unfolding types_of_results type_of_result
constant_settles kind ts n w y is types = ap₂ (λ z us. slice_index_or (types_of_results z us n) 0 None) is types

module _ (d : Design) (fit : IsFit d) (m : ℕ) (md : Module) (at : slice_get d m ≡ Some md) where
  own_none : (n : ℕ) (o : Op) → slice_get md.body n ≡ Some o → NoCauseAlone md.ports md.body o
  own_none n o there = no_cause_alone md.ports md.body o (own_cause_none d fit m md at n o there)

  -- a constant has no second result
  no_second : (n : ℕ) (o : Op) → slice_get md.body n ≡ Some o → (y : ℤ) → o.kind ≡ constant y → (k : ℕ) → result_type o (suc k) ≡ None
  no_second n o there y is k = one_result o.results k (result_number md.ports md.body o (own_none n o there) ∙ constant_results o.kind o.types y is)

  -- so a result of it that has a type has that of the first
  first_typed : (n : ℕ) (o : Op) → slice_get md.body n ≡ Some o → (k : ℕ) (t : HwType) → result_type o k ≡ Some t → (y : ℤ) → o.kind ≡ constant y → result_type o 0 ≡ Some t
  first_typed n o there zero t typed y is = typed
  first_typed n o there (suc k) t typed y is = let clash : None ≡ Some t = sym (no_second n o there y is k) ∙ typed in cc

  number_of : (n : ℕ) (o : Op) → slice_get md.body n ≡ Some o → (y : ℤ) → o.kind ≡ constant y → IsNumber o.types y
  number_of n o there y is =
      number_own o.kind o.types (types_of o.results) o.named (length o.operands) (map (settled_type md.ports md.body) o.operands)
      (divides_by_constant md.body o.operands) y is (own_none n o there)

  module _ (i j : ℕ) (found : EqualFound md.body i j) where
    same_type_at : (k : ℕ) → result_type found.first k ≡ result_type found.op k
    same_type_at k =
        sym (slice_get-map (λ (r : OpResult). r.type) found.first.results k)
        ∙ ap (λ ts. slice_get ts k) (equal_ops_parts found.first found.op found.equal).2
        ∙ slice_get-map (λ (r : OpResult). r.type) found.op.results k

    first_pure : is_pure found.first.kind ≡ true
    first_pure =
        sym (pure_value (result_type found.first 0) found.first.kind)
        ∙ ap is_pure (equal_ops_parts found.first found.op found.equal).3
        ∙ pure_value (result_type found.op 0) found.op.kind
        ∙ found.pure

    same_words : (τ : Ref → Word) (k : ℕ) (t : HwType) → result_type found.op k ≡ Some t → result_word τ found.op k (Some t) ≡ result_word τ found.first k (Some t)
    same_words τ k t typed =
        sym (kind_word (result_type found.op 0) found.op.kind found.op.types t k (map τ found.op.operands) (λ y is. first_typed i found.op found.there k t typed y is))
        ∙ sym (ap (λ z. op_value z found.op.types t k (map τ found.op.operands)) (equal_ops_parts found.first found.op found.equal).3)
        ∙ sym (ap₂ (λ ts rs. op_value (value_kind (result_type found.first 0) found.first.kind) ts t k (map τ rs))
        (equal_ops_parts found.first found.op found.equal).1 (equal_ops_parts found.first found.op found.equal).0)
        ∙ kind_word (result_type found.first 0) found.first.kind found.first.types t k (map τ found.first.operands)
        (λ y is. first_typed j found.first found.first_there k t (same_type_at k ∙ typed) y is)

    merge : Merged md i j found.op found.first
    merge = record {
      there = found.there;
      first = found.first_there;
      before = found.before;
      plain = pure_plain found.op.kind found.pure;
      first_plain = pure_plain found.first.kind first_pure;
      operands = (equal_ops_parts found.first found.op found.equal).0;
      types = same_type_at;
      words = same_words;
    }

    -- the first one is a constant that is not zero where the other one is
    first_nonzero : is_nonzero_kind found.op.kind ≡ true → is_nonzero_kind found.first.kind ≡ true
    first_nonzero = go found.op.kind refl
      where
        go : (kind : Kind) → found.op.kind ≡ kind → is_nonzero_kind kind ≡ true → is_nonzero_kind found.first.kind ≡ true
        go (constant y) is other =
            let number = number_of i found.op found.there y is in
            let typed : result_type found.op 0 ≡ Some (int number.bits_of) =
            sym (settled_result md.ports md.body found.op (own_cause_none d fit m md at i found.op found.there) 0)
            ∙ constant_settles found.op.kind found.op.types (length found.op.operands) number.bits_of y is number.types_are in
            nonzero_too number.bits_of y found.first.kind number.some number.within
            (sym (ap₂ value_kind typed is) ∙ sym (equal_ops_parts found.first found.op found.equal).3
            ∙ ap (λ x. value_kind x found.first.kind) (same_type_at 0 ∙ typed))
            other
        go _ is other = cc

    first_constant : is_constant found.op.kind ≡ true → is_constant found.first.kind ≡ true
    first_constant h =
        sym (constant_value (result_type found.first 0) found.first.kind)
        ∙ ap is_constant (equal_ops_parts found.first found.op found.equal).3
        ∙ constant_value (result_type found.op 0) found.op.kind
        ∙ h

    -- no more is refused of what stands for a value
    stands_allow : (r : Ref) → is_some (type_in md.ports md.body r) ≡ true
        → AllowsMore (operand_in md.ports md.body r) (operand_in md.ports (map (retarget (stand_for i j found.op)) (remove md.body i)) (stand_for i j found.op r))
    stands_allow (port n) h = allows_itself (operand_in md.ports md.body (port n))
    stands_allow undefined h = allows_itself (operand_in md.ports md.body undefined)
    stands_allow (result n k) h = go (down i n) refl
      where
        of_first : AllowsMore (result_operand k (Some found.op)) (result_operand k (slice_get (map (retarget (stand_for i j found.op)) (remove md.body i)) j))
        of_first =
            subst (AllowsMore (result_operand k (Some found.op)))
            (sym (ap (result_operand k) (first_stays md i j found.op found.first merge) ∙ operand_retarget (stand_for i j found.op) k (Some found.first)))
            (result_allows md.ports md.body found.op found.first (own_cause_none d fit m md at i found.op found.there)
            (own_cause_none d fit m md at j found.first found.first_there) same_type_at first_nonzero first_constant k)

        of_result : (x : Option HwType) → is_some x ≡ true
            → AllowsMore (result_operand k (Some found.op)) (operand_in md.ports (map (retarget (stand_for i j found.op)) (remove md.body i)) (typed_result x j k))
        of_result None h = cc
        of_result (Some t) h = of_first

        go : (z : Option ℕ) → down i n ≡ z
            → AllowsMore (operand_in md.ports md.body (result n k)) (operand_in md.ports (map (retarget (stand_for i j found.op)) (remove md.body i)) (stand_at z found.op j k))
        go (Some n') is =
            subst (AllowsMore (result_operand k (slice_get md.body n)))
            (sym (ap (result_operand k) (merged_there md i j found.op found.first merge n n' is) ∙ operand_retarget (stand_for i j found.op) k (slice_get md.body n)))
            (allows_itself (result_operand k (slice_get md.body n)))
        go None here =
            let own : slice_get md.body n ≡ Some found.op = ap (slice_get md.body) (down_none i n here) ∙ found.there in
            subst (λ x. AllowsMore (result_operand k x) (operand_in md.ports (map (retarget (stand_for i j found.op)) (remove md.body i)) (typed_result (result_type found.op k) j k)))
            (sym own)
            (of_result (result_type found.op k) (sym (ap (λ x. is_some (option_and_then (λ (w : Op). result_type w k) x)) own) ∙ h))

    merged_keeps : KeepsAsked md (map (retarget (stand_for i j found.op)) (remove md.body i)) (merged_valid md i j found.op found.first merge)
    unfolding merged_valid
    merged_keeps = record {
      operands = λ n z r is here. stands_allow r (operand_there d fit m md at n z r is here);
      fresh = λ n z new is. cc;
      ends = λ h. ends_retarget (stand_for i j found.op) (remove md.body i) (ends_remove md.body i found.op found.there (plain_parts found.op merge.plain).1 h);
    }

    edit_steady : IsSteady d (with_body d m md (map (retarget (stand_for i j found.op)) (remove md.body i)))
    edit_steady =
        steady_with_body d m md (map (retarget (stand_for i j found.op)) (remove md.body i)) at
        (merged_follows md i j found.op found.first merge d m fit.valid at)
        (fit_after d m md (map (retarget (stand_for i j found.op)) (remove md.body i)) (merged_valid md i j found.op found.first merge) fit at merged_keeps)
        (shape_from_anchors md.body (map (retarget (stand_for i j found.op)) (remove md.body i)) (merged_valid md i j found.op found.first merge).edited.edit.stand
        (merged_valid md i j found.op found.first merge).edited.edit.anchors_are)

    found_steady : IsSteady d (with_body d m md (merge_op i j md.body))
    found_steady =
        subst (λ os. IsSteady d (with_body d m md os))
        (body_is md i j found.op found.first merge (λ n z r is here. operand_there d fit m md at n z r is here)) edit_steady

  -- an operation that is merged with an equal one before it
  pub merge_steady : (i j : ℕ) → EqualFound md.body i j → IsSteady d (with_body d m md (merge_op i j md.body))
  merge_steady i j found = found_steady i j found

-- no module is heavier without it
pub merge_lighter : (d : Design) (m : ℕ) (md : Module) → slice_get d m ≡ Some md → (i j : ℕ) → EqualFound md.body i j
    → (s : Name) → weight (with_body d m md (merge_op i j md.body)) s ≤ weight d s
merge_lighter d m md at i j found = weight_with_body d m md (merge_op i j md.body) at less
  where
    less : (inner : Name → ℕ) → body_weight inner (merge_op i j md.body) ≤ body_weight inner md.body
    less inner =
        let merged : body_weight inner (merge_op i j md.body) ≡ body_weight inner (remove md.body i) = weight-retarget inner (merged_ref i j) (remove md.body i) in
        let erased : body_weight inner (erase_op i undefined md.body) ≡ body_weight inner (remove md.body i) = weight-retarget inner (without i undefined) (remove md.body i) in
        let sum : kind_weight inner found.op.kind found.op.types (length found.op.operands) + body_weight inner (erase_op i undefined md.body) ≡ body_weight inner md.body =
        weight_taken_out inner md.body i found.op undefined found.there in
        omega (arith, merged, erased, sum)
