-- An operation of any number of operands takes in an operand's operation of its kind that has no other use.
use Rattle.std.proofs.Common.{◌≡◌, ◌⊎◌, ℕ, ◌+◌, ◌*◌, ◌≤◌, true, List, [], ◌∷◌, length, map, Option, Some, None, slice_get, refl, sym, ap, subst, ◌∙◌, inl, inr, arith, option_and_then, option_map}
use Rattle.std.proofs.lemmas.List.{length-map}
use Rattle.std.proofs.lemmas.Option.{slice_get-map}
use Rattle.wiring.specs.Wiring.{In}
use Rattle.wiring.proofs.Members.{In-map, from_In-map, In-slice_get, position_of_In}
use Rattle.wiring.proofs.Options.{and_then_some, option_map_some}
use Rattle.bits_core.specs.Word.{Word}
use Rattle.hw_model.specs.Types.{HwType, width}
use Rattle.hw_model.specs.Kinds.{Kind, Variadic}
use Rattle.hw_model.specs.Kinds.Variadic.{add, mul, and, or, xor}
use Rattle.hw_model.specs.Kinds.Kind.{variadic}
use Rattle.hw_model.specs.Design.{Ref, Op, Module, Design, result_type}
use Rattle.hw_model.specs.Design.Ref.{result, undefined}
use Rattle.hw_model.specs.Sound.{type_in, Fits}
use Rattle.hw_model.specs.Value.{variadic_value, op_value}
use Rattle.hw_model.specs.Weight.{kind_weight}
use Rattle.type_inference.specs.ResultTypes.{result_type as type_of_result, result_types}
use Rattle.stored_form.specs.ResultTypes.{type_or_none}
use Rattle.op_checks.specs.CountChecks.{operands_written, type_count}
use Rattle.op_checks.specs.OwnChecks.{own_cause}
use Rattle.op_checks.proofs.NoOwnCause.{NoOwnCause}
use Rattle.op_verifier.specs.OpChecks.{has_again, settled_type, divides_by_constant, alone_cause}
use Rattle.op_verifier.proofs.NoCauseAlone.{types_of}
use Rattle.printing_laws.specs.Printable.{IsDefined, IsPrintableOp, settled_result}
use Rattle.acceptance_laws.specs.Keeps.{IsFit}
use Rattle.acceptance_laws.proofs.Accepted.{each_at, each_from}
use Rattle.acceptance_laws.proofs.FitBodies.{settled_here}
use Rattle.fold_laws.specs.Edits.{Edit, edited_by, fold_by}
use Rattle.fold_laws.specs.Edits.Edit.{changed, erased}
use Rattle.fold_laws.specs.Fold.{kind_measure, IsFold, FoldLaw}
use Rattle.fold_laws.specs.Nested.{uses_among, Nested, same_variadic, is_variadic, first_nested, splice, joined_operation, operand_edits, fold_nested_operand}
use Rattle.fold_laws.specs.Unused.{is_pure}
use Rattle.fold_laws.proofs.FewerOperands.{written, types_written, results_given}
use Rattle.fold_laws.proofs.MadeKinds.{is_made, made_plain}
use Rattle.fold_laws.proofs.Nested.{TakesIn, IsNest, found_nest, nest_joined}
use Rattle.fold_laws.proofs.NestedUses.{uses-splice, own_result, IsNested, first_nested_is}
use Rattle.fold_laws.proofs.NestedValues.{variadic-splice}
use Rattle.fold_laws.proofs.Splices.{length-splice, In-splice, map-splice}
use Rattle.fold_laws.proofs.Stands.{Known, Held, held_width, op_printable, op_own, op_results, op_typed, op_known}
use Rattle.fold_laws.proofs.VariadicCauses.{variadic_none}

-- an operation of any number of operands has one
some_written : (v : Variadic) (n : ℕ) → n ≡ operands_written (variadic v) n → 1 ≤ n
unfolding operands_written
some_written v n is = omega arith

-- ---- kinds

variadic_from : (v u : Variadic) → same_variadic v u ≡ true → u ≡ v
variadic_from add add is = refl
variadic_from mul mul is = refl
variadic_from and and is = refl
variadic_from or or is = refl
variadic_from xor xor is = refl
variadic_from _ _ is = cc

variadic_is : (v : Variadic) (kind : Kind) → is_variadic v kind ≡ true → kind ≡ variadic v
variadic_is v (variadic u) is = ap variadic (variadic_from v u is)
variadic_is v _ is = cc

-- ---- what nest there is

module _ (d : Design) (fit : IsFit d) (k : ℕ) (md : Module) (at : slice_get d k ≡ Some md) (i : ℕ) (o : Op) (there : slice_get md.body i ≡ Some o)
    (v : Variadic) (kind : o.kind ≡ variadic v) (n : Nested) (found : IsNested (is_variadic v) md.body i o.operands n) where
  inner_kind : n.inner.kind ≡ variadic v
  inner_kind = variadic_is v n.inner.kind found.kind

  made : is_made o.kind ≡ true
  made = ap is_made kind

  inner_made : is_made n.inner.kind ≡ true
  inner_made = ap is_made inner_kind

  nest : IsNest md i o n.number n.position n.inner
  nest = found_nest (is_variadic v) md i o n there found made inner_made (ap is_pure inner_kind)

  abbrev own_type : HwType
  own_type = type_or_none (type_of_result o.kind o.types (length o.operands))

  abbrev inner_type : HwType
  inner_type = type_or_none (type_of_result n.inner.kind n.inner.types (length n.inner.operands))

  abbrev joined : List Ref
  joined = splice n.number n.inner.operands o.operands

  -- ---- types

  known : Known md.body (variadic v) o.types o.operands (type_in md.ports md.body) own_type
  known = subst (λ z. Known md.body z o.types o.operands (type_in md.ports md.body) own_type) kind (op_known d fit k md at i o there made)

  inner_known : Known md.body (variadic v) n.inner.types n.inner.operands (type_in md.ports md.body) inner_type
  inner_known =
      subst (λ z. Known md.body z n.inner.types n.inner.operands (type_in md.ports md.body) inner_type) inner_kind
      (op_known d fit k md at n.position n.inner found.there inner_made)

  own_typed : (r : Ref) → In r o.operands → type_in md.ports md.body r ≡ Some own_type
  own_typed r here = known.fits (type_in md.ports md.body r) (In-map (type_in md.ports md.body) r o.operands here)

  named : In (result n.position 0) o.operands
  named = In-slice_get (result n.position 0) o.operands n.number found.named

  result_typed : result_type n.inner 0 ≡ Some inner_type
  result_typed = op_typed d fit k md at n.position n.inner found.there inner_made

  same_type : inner_type ≡ own_type
  same_type =
      let both : Some inner_type ≡ Some own_type =
      sym (ap (λ z. option_and_then (λ (y : Op). result_type y 0) z) found.there ∙ result_typed) ∙ own_typed (result n.position 0) named in
      cc

  typed : (r : Ref) → In r joined → type_in md.ports md.body r ≡ Some own_type
  typed r here = go (In-splice r n.number n.inner.operands o.operands here)
    where
      go : In r n.inner.operands ⊎ In r o.operands → type_in md.ports md.body r ≡ Some own_type
      go (inr own) = own_typed r own
      go (inl own) = inner_known.fits (type_in md.ports md.body r) (In-map (type_in md.ports md.body) r n.inner.operands own) ∙ ap Some same_type

  fits : Fits (variadic v) o.types (map (type_in md.ports md.body) joined) own_type 0
  fits y here = let from = from_In-map (type_in md.ports md.body) y joined here in from.2 ∙ typed from.0 from.1

  -- ---- values

  words : (τ : Ref → Word) → Held md.body (type_in md.ports md.body) τ
      → τ (result n.position 0) ≡ op_value n.inner.kind n.inner.types inner_type 0 (map τ n.inner.operands)
      → op_value o.kind o.types own_type 0 (map τ o.operands) ≡ op_value o.kind o.types own_type 0 (map τ joined)
  words τ held inner =
      ap (λ z. op_value z o.types own_type 0 (map τ o.operands)) kind
      ∙ variadic-splice v (width own_type) n.number (map τ n.inner.operands) (map τ o.operands) each
      (slice_get-map τ o.operands n.number ∙ ap (option_map τ) found.named ∙ ap Some word)
      ∙ ap (variadic_value v (width own_type)) (sym (map-splice τ n.number n.inner.operands o.operands))
      ∙ sym (ap (λ z. op_value z o.types own_type 0 (map τ joined)) kind)
    where
      each : (y : Word) → In y (map τ o.operands) → length y ≡ width own_type
      each y here =
          let from = from_In-map τ y o.operands here in
          ap length from.2 ∙ held_width held from.0 own_type (own_typed from.0 from.1)

      word : τ (result n.position 0) ≡ variadic_value v (width own_type) (map τ n.inner.operands)
      word =
          inner ∙ ap (λ z. op_value z n.inner.types inner_type 0 (map τ n.inner.operands)) inner_kind
          ∙ ap (λ t. variadic_value v (width t) (map τ n.inner.operands)) same_type

  -- ---- counts

  count : length joined + 1 ≡ length n.inner.operands + length o.operands
  count = length-splice n.number n.inner.operands o.operands (result n.position 0) found.named

  some_inner : 1 ≤ length n.inner.operands
  some_inner = some_written v (length n.inner.operands) inner_known.operands

  some_own : 1 ≤ length o.operands
  some_own = some_written v (length o.operands) known.operands

  some_joined : 1 ≤ length joined
  some_joined = omega (arith, count, some_inner, some_own)

  -- ---- causes

  own_settled : (r : Ref) → In r joined → settled_type md.ports md.body r ≡ settled_type md.ports md.body (result n.position 0)
  own_settled r here =
      settled_here d fit k md at r ∙ typed r here ∙ sym (own_typed (result n.position 0) named) ∙ sym (settled_here d fit k md at (result n.position 0))

  types_within : (y : Option HwType) → In y (map (settled_type md.ports md.body) joined) → In y (map (settled_type md.ports md.body) o.operands)
  types_within y here =
      let from = from_In-map (settled_type md.ports md.body) y joined here in
      subst (λ z. In z (map (settled_type md.ports md.body) o.operands)) (sym (from.2 ∙ own_settled from.0 from.1))
      (In-map (settled_type md.ports md.body) (result n.position 0) o.operands named)

  alone : alone_cause md.ports md.body (joined_operation o n) ≡ None
  alone =
      subst (λ z. own_cause z o.types (types_of o.results) o.named (map (settled_type md.ports md.body) joined) (divides_by_constant md.body joined) ≡ None) (sym kind)
      (variadic_none v o.types (types_of o.results) o.named (length o.operands) (map (settled_type md.ports md.body) o.operands) (map (settled_type md.ports md.body) joined)
      (divides_by_constant md.body o.operands) (divides_by_constant md.body joined)
      (subst (λ z. NoOwnCause z o.types (types_of o.results) o.named (length o.operands) (map (settled_type md.ports md.body) o.operands) (divides_by_constant md.body o.operands)) kind
      (op_own d fit k md at i o there made))
      types_within (subst (λ m. 1 ≤ m) (sym (length-map joined (settled_type md.ports md.body))) some_joined))

  -- ---- printing

  printable : IsPrintableOp md.ports md.body o
  printable = op_printable d fit k md at i o there made

  inner_printable : IsPrintableOp md.ports md.body n.inner
  inner_printable = op_printable d fit k md at n.position n.inner found.there inner_made

  defined : (r : Ref) → In r joined → IsDefined md.ports md.body r
  defined r here = go (In-splice r n.number n.inner.operands o.operands here)
    where
      go : In r n.inner.operands ⊎ In r o.operands → IsDefined md.ports md.body r
      go (inl own) = let position = position_of_In r n.inner.operands own in each_at (IsDefined md.ports md.body) n.inner.operands position.0 r inner_printable.defined position.1
      go (inr own) = let position = position_of_In r o.operands own in each_at (IsDefined md.ports md.body) o.operands position.0 r printable.defined position.1

  new_printable : IsPrintableOp md.ports md.body (joined_operation o n)
  new_printable = record {
    defined = each_from (IsDefined md.ports md.body) joined (λ m r is. defined r (In-slice_get r joined m is));
    operands = subst (λ z. length joined ≡ operands_written z (length joined)) (sym kind) (written v (length joined) some_joined);
    types = printable.types ∙ subst (λ z. type_count z (length o.operands) ≡ type_count z (length joined)) (sym kind) (types_written v (length o.operands) (length joined));
    readable = printable.readable;
    results = printable.results
        ∙ ap (map settled_result) (subst (λ z. result_types z o.types (length o.operands) ≡ result_types z o.types (length joined)) (sym kind)
        (results_given v o.types (length o.operands) (length joined)));
    named = printable.named;
    few = printable.few;
    kept = printable.kept;
    written = printable.written;
    nameless = printable.nameless;
    name = printable.name;
    dictionary = printable.dictionary;
    bin = printable.bin;
  }

  -- ---- what is shown

  takes : TakesIn md n.position o n.inner (joined_operation o n) own_type inner_type
  takes = record {
    plain = made_plain o.kind made;
    same_types = λ m. refl;
    within = λ r here. In-splice r n.number n.inner.operands o.operands here;
    uses = ap (λ m. uses_among n.position joined + m) (sym (own_result n.position 0))
        ∙ uses-splice n.position n.number n.inner.operands o.operands (result n.position 0) found.named;
    fits = subst (λ z. Fits z o.types (map (type_in md.ports md.body) joined) own_type 0) (sym kind) fits;
    words = words;
    first = ap has_again (op_results d fit k md at i o there made);
    alone = alone;
    printable = new_printable;
    lighter = λ inner.
        let new : kind_weight inner o.kind o.types (length joined) ≡ 1 + length joined = ap (λ z. kind_weight inner z o.types (length joined)) kind in
        let old : kind_weight inner o.kind o.types (length o.operands) ≡ 1 + length o.operands = ap (λ z. kind_weight inner z o.types (length o.operands)) kind in
        let within : kind_weight inner n.inner.kind n.inner.types (length n.inner.operands) ≡ 1 + length n.inner.operands =
        ap (λ z. kind_weight inner z n.inner.types (length n.inner.operands)) inner_kind in
        omega (arith, count);
    smaller =
        let new : kind_measure o.kind (length joined) ≡ 2 + 3 * length joined = ap (λ z. kind_measure z (length joined)) kind in
        let old : kind_measure o.kind (length o.operands) ≡ 2 + 3 * length o.operands = ap (λ z. kind_measure z (length o.operands)) kind in
        let within : kind_measure n.inner.kind (length n.inner.operands) ≡ 2 + 3 * length n.inner.operands = ap (λ z. kind_measure z (length n.inner.operands)) inner_kind in
        omega (arith, count);
  }

  pub operand_joined : IsFold d k md (edited_by (changed i (joined_operation o n) ∷ erased n.position undefined ∷ []) md.body)
  operand_joined =
      nest_joined d fit k md at i o n.number n.position n.inner nest own_type inner_type (op_typed d fit k md at i o there made) result_typed (joined_operation o n) takes

-- ---- the law

pub nested_operand_is_fold : FoldLaw (fold_by fold_nested_operand)
nested_operand_is_fold d k md i os fit at is =
    let edits = option_map_some (λ (es : List Edit). edited_by es md.body) (fold_nested_operand md.body i) is in
    let found = and_then_some (slice_get md.body i) (λ (o : Op). operand_edits md.body i o o.kind) edits.1 in
    subst (IsFold d k md) edits.2 (by_kind found.0 found.1 found.0.kind refl edits.0 found.2)
  where
    by_kind : (o : Op) → slice_get md.body i ≡ Some o → (kind : Kind) → o.kind ≡ kind → (es : List Edit) → operand_edits md.body i o kind ≡ Some es
        → IsFold d k md (edited_by es md.body)
    by_kind o there (variadic v) kind es made =
        let given = option_map_some (λ (n : Nested). changed i (joined_operation o n) ∷ erased n.position undefined ∷ []) (first_nested (is_variadic v) md.body i o.operands) made in
        subst (λ z. IsFold d k md (edited_by z md.body)) given.2
        (operand_joined d fit k md at i o there v kind given.0 (first_nested_is (is_variadic v) md.body i o.operands given.0 given.1))
    by_kind o there _ kind es made = cc
