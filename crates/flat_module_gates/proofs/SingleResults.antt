-- The operations of a flat module have one result each, but an output has none.
use Rattle.std.proofs.Common.{◌≡◌, refl, sym, ap, subst, ◌∙◌, ℕ, Bool, true, false, cond, List, [], ◌∷◌, map, length, Option, Some, None, slice_get, inl, inr, arith}
use Rattle.std.proofs.lemmas.Option.{slice_get-map}
use Rattle.std.specs.List.{list_any}
use Rattle.hw_model.specs.Types.{Name, HwType}
use Rattle.hw_model.specs.Types.HwType.{int, clock, array, struct}
use Rattle.hw_model.specs.Types.FieldTypes.{no_fields, field}
use Rattle.hw_model.specs.Kinds.{Kind}
use Rattle.hw_model.specs.Kinds.StructOp.{struct_explode}
use Rattle.hw_model.specs.Kinds.Kind.{on_struct, instance, output}
use Rattle.hw_model.specs.Design.{OpResult, Op, Module, Design, instance_in, register_form, is_output_op, is_output_kind, result_type}
use Rattle.hw_model.specs.Sound.{type_in}
use Rattle.type_inference.specs.ResultTypes.{first_type, field_count, result_count}
use Rattle.op_checks.specs.TypeChecks.{is_outside}
use Rattle.op_checks.specs.TypeLists.{is_no_struct}
use Rattle.op_checks.specs.OperandChecks.{has_other_form}
use Rattle.op_checks.specs.CountChecks.{type_count}
use Rattle.op_checks.proofs.NoOwnCause.{NoOwnCause}
use Rattle.op_verifier.specs.OpChecks.{settled_type, divides_by_constant}
use Rattle.op_verifier.proofs.NoCauseAlone.{types_of, result_number}
use Rattle.operation_gates.specs.Operands.{IsPlain as IsPlainKind}
use Rattle.flat_module_laws.specs.Sides.{IsPlain}
use Rattle.flat_module_laws.proofs.ScalarValues.{made_scalar}
use Rattle.flat_module_laws.proofs.PlainKinds.{made_plain}
use Rattle.flat_module_laws.proofs.FlatBodies.{plain_body, plain_no_instance, plain_no_cause, plain_scalar}
use Rattle.flat_module_gates.proofs.Linking.{HasOne, AreSingle}

-- ---- how many results

count_is : (kind : Kind) (ts : List HwType) → instance_in kind ≡ None → (kind ≡ on_struct struct_explode → ⊥) → result_count kind ts ≡ cond (is_output_kind kind) 0 1
unfolding result_count
count_is output ts alone other = refl
count_is (on_struct struct_explode) ts alone other = absurd (other refl)
count_is (instance i) ts alone other = cc
count_is kind ts alone other = refl

no_result : (rs : List OpResult) → length rs ≡ 0 → rs ≡ []
no_result [] n = refl
no_result (r ∷ rs) n = absurd (omega (arith, n))

one_result : (rs : List OpResult) → length rs ≡ 1 → (r : OpResult) × (rs ≡ r ∷ [])
one_result [] n = absurd (omega (arith, n))
one_result (r ∷ []) n = (r, refl)
one_result (r ∷ s ∷ rs) n = absurd (omega (arith, n))

-- ---- structs

-- a struct has a field, so it gives a result
first_field : (ts rs : List HwType) → length ts ≡ 1 → is_no_struct (first_type ts) ≡ false → list_any is_outside ts ≡ false → length rs ≡ field_count (first_type ts)
    → (t : HwType) × (slice_get rs 0 ≡ Some t)
unfolding is_outside
first_field [] rs n form inside count = absurd (omega (arith, n))
first_field (int w ∷ ts) rs n form inside count = cc
first_field (clock ∷ ts) rs n form inside count = cc
first_field (array c u ∷ ts) rs n form inside count = cc
first_field (struct no_fields ∷ ts) rs n form inside count = cc
first_field (struct (field name u fs) ∷ ts) [] n form inside count = absurd (omega (arith, count))
first_field (struct (field name u fs) ∷ ts) (r ∷ rs) n form inside count = (r, refl)

gives_first : (ts rs : List HwType) (named n : ℕ) (xs : List (Option HwType)) (is_known : Bool) → NoOwnCause (on_struct struct_explode) ts rs named n xs is_known
    → (t : HwType) × (slice_get rs 0 ≡ Some t)
unfolding has_other_form type_count result_count
gives_first ts rs named n xs is_known own = first_field ts rs own.types own.form own.written own.results

-- ---- a flat module

module _ (d : Design) (top : Name) (m : Module) (plain : IsPlain d top m) (i : ℕ) (o : Op) (at : slice_get m.body i ≡ Some o) where
  -- no struct is there to be taken apart
  no_explosion : o.kind ≡ on_struct struct_explode → ⊥
  no_explosion is =
      let own = plain_no_cause d top m plain i o at in
      let first = gives_first o.types (types_of o.results) o.named (length o.operands) (map (settled_type m.ports m.body) o.operands) (divides_by_constant m.body o.operands)
      (subst (λ kind. NoOwnCause kind o.types (types_of o.results) o.named (length o.operands) (map (settled_type m.ports m.body) o.operands) (divides_by_constant m.body o.operands)) is own) in
      let typed : result_type o 0 ≡ Some first.0 = sym (slice_get-map (λ (r : OpResult). r.type) o.results 0) ∙ first.1 in
      subst IsPlainKind is
      (made_plain o.named (length o.operands) (map (settled_type m.ports m.body) o.operands) (divides_by_constant m.body o.operands) o.types (types_of o.results)
      (map (type_in m.ports m.body) o.operands) first.0 0 first.1 (made_scalar m plain.scalar i 0 o first.0 at typed) (plain_scalar d top m plain o.operands) o.kind
      (ap register_form is) (ap instance_in is) (ap is_output_kind is) own ((plain_body d top m plain).ops i o at 0 first.0 typed))

  counted : length o.results ≡ cond (is_output_kind o.kind) 0 1
  counted = result_number m.ports m.body o (plain_no_cause d top m plain i o at) ∙ count_is o.kind o.types (plain_no_instance d top m plain i o at) no_explosion

  has_one : HasOne o
  has_one = go (is_output_op o) refl
    where
      go : (b : Bool) → is_output_op o ≡ b → HasOne o
      go true is = inl (is, no_result o.results (counted ∙ ap (λ (b : Bool). cond b 0 1) is))
      go false is = let one = one_result o.results (counted ∙ ap (λ (b : Bool). cond b 0 1) is) in inr (one.0, one.1, is)

pub plain_is_single : (d : Design) (top : Name) (m : Module) → IsPlain d top m → AreSingle m.body
plain_is_single d top m plain i o at = has_one d top m plain i o at
