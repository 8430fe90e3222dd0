-- The wires that stand for an instance's results: nothing is refused of them, and they can be printed.
use Rattle.std.proofs.Common.{◌≡◌, ℕ, Bool, false, List, [], ◌∷◌, map, drop, length, Some, None, refl, sym, ap, subst, ◌∙◌, inl, inr}
use Rattle.std.specs.List.{list_any}
use Rattle.wiring.specs.Wiring.{In}
use Rattle.wiring.proofs.Members.{position_of_In, from_In-map, from_In-drop}
use Rattle.hw_model.specs.Types.{HwType}
use Rattle.hw_model.specs.Kinds.{Kind, Instance}
use Rattle.hw_model.specs.Kinds.Kind.{wire, instance}
use Rattle.hw_model.specs.Design.{Ref, Port, OpResult, Op, Location}
use Rattle.hw_model.specs.SameType.{type_self}
use Rattle.type_inference.specs.ResultTypes.{result_types, result_count, result_type as type_of_result}
use Rattle.op_checks.specs.TypeChecks.{is_outside, has_bad_field, has_clock_part, is_clock}
use Rattle.op_checks.specs.OperandChecks.{has_other_form, has_other_operand, has_other_result, has_mismatch}
use Rattle.op_checks.specs.LimitChecks.{has_type_outside, has_constant_outside, has_extract_outside, has_broken_copy, has_wide_concat, has_unknown_divisor, has_wrong_index, has_wrong_field}
use Rattle.op_checks.specs.LimitChecks.{has_unequal_widths, value_types, has_clock_operand, has_clock_value}
use Rattle.op_checks.specs.CountChecks.{operands_written, operand_count, type_count, has_wrong_operands, has_wrong_results, has_miscounted_parts, has_wrong_count}
use Rattle.op_checks.specs.OwnChecks.{own_cause}
use Rattle.op_checks.proofs.Widths.{neither}
use Rattle.op_verifier.specs.OpChecks.{alone_cause}
use Rattle.op_verifier.proofs.NoCauseAlone.{no_cause_alone}
use Rattle.stored_form.specs.Bytes.{Each}
use Rattle.stored_form.specs.Limits.{IsAnyType}
use Rattle.printing_laws.specs.Printable.{IsDefined, settled_result, IsPrintableOp}
use Rattle.acceptance_laws.proofs.Accepted.{each_at}
use Rattle.inline_laws.specs.Inline.{wire_op, wire_ops}

-- ---- members

each_member : {A : Type 0} (P : A → Type 0) (xs : List A) (x : A) → Each P xs → In x xs → P x
each_member P xs x all here = let at = position_of_In x xs here in each_at P xs at.0 x all at.1

none_of : {A : Type 0} (p : A → Bool) (xs : List A) (x : A) → list_any p xs ≡ false → In x xs → p x ≡ false
none_of p [] x none here = absurd here
none_of p (y ∷ xs) x none (inl same) = ap p same ∙ (neither (p y) (list_any p xs) none).0
none_of p (y ∷ xs) x none (inr here) = none_of p xs x (neither (p y) (list_any p xs) none).1 here

-- ---- a wire

-- a wire may have the type
pub record IsWireType (t : HwType) : Type 0 where
  pub within : is_outside t ≡ false
  pub fields : has_bad_field t ≡ false
  pub clock_part : has_clock_part t ≡ false
  pub no_clock : is_clock t ≡ false
  pub readable : IsAnyType t

pub wire_settles : (t : HwType) (n : ℕ) → result_types wire (t ∷ []) n ≡ Some t ∷ []
unfolding result_types type_of_result
wire_settles t n = refl

pub wire_unrefused : (t : HwType) (known : Bool) → IsWireType t → own_cause wire (t ∷ []) (t ∷ []) 1 (Some t ∷ []) known ≡ None
unfolding own_cause has_mismatch has_other_form has_other_operand has_other_result result_types type_of_result has_type_outside has_constant_outside has_extract_outside has_broken_copy has_wide_concat has_unknown_divisor has_wrong_index has_wrong_field has_unequal_widths has_clock_value has_clock_operand has_wrong_count has_wrong_operands has_wrong_results operand_count operands_written type_count has_miscounted_parts result_count
wire_unrefused t known is = rw (type_self t, is.within, is.fields, is.clock_part, is.no_clock) refl

pub wire_printable : (ports : List Port) (os : List Op) (at : Location) (t : HwType) (r : Ref) → IsWireType t → IsDefined ports os r → IsPrintableOp ports os (wire_op at t r)
unfolding operands_written type_count result_types type_of_result
wire_printable ports os at t r is defined = record {
  defined = (defined, tt);
  operands = refl;
  types = refl;
  readable = (is.readable, tt);
  results = refl;
  named = refl;
  few = λ h. cc;
  kept = tt;
  written = tt;
  nameless = λ h. cc;
  name = tt;
  dictionary = record { in_order = tt; kept = tt; entries = tt };
  bin = λ h. cc;
}

-- ---- types of an instance's results

instance_results : (k : Kind) (i : Instance) (ts : List HwType) (n : ℕ) → k ≡ instance i
    → result_types k ts n ≡ map (λ (t : HwType). Some t) (drop (length i.inputs) ts)
unfolding result_types
instance_results k i ts n is = ap (λ z. result_types z ts n) is

-- a wire may have the type of a result of an instance of which nothing is refused and which can be printed
pub result_wire_type : (ports : List Port) (os : List Op) (o : Op) (i : Instance) → o.kind ≡ instance i → alone_cause ports os o ≡ None → IsPrintableOp ports os o
    → (x : OpResult) → In x o.results → IsWireType x.type
result_wire_type ports os o i kind none printable x here =
    let settled = from_In-map settled_result x (result_types o.kind o.types (length o.operands)) (subst (λ xs. In x xs) printable.results here) in
    let typed = from_In-map (λ (t : HwType). Some t) settled.0 (drop (length i.inputs) o.types)
    (subst (λ ts. In settled.0 ts) (instance_results o.kind i o.types (length o.operands) kind) settled.1) in
    let same : x.type ≡ typed.0 = ap (λ (z : OpResult). z.type) (settled.2 ∙ ap settled_result typed.2) in
    subst IsWireType (sym same) (written typed.0 typed.1)
  where
    written : (t : HwType) → In t (drop (length i.inputs) o.types) → IsWireType t
    written t late =
        let own = no_cause_alone ports os o none in
        let whole : In t o.types = from_In-drop t (length i.inputs) o.types late in
        record {
          within = none_of is_outside o.types t own.written whole;
          fields = none_of has_bad_field o.types t own.field_names whole;
          clock_part = none_of has_clock_part o.types t own.clock_part whole;
          no_clock = none_of is_clock (drop (length i.inputs) o.types) t (ap (λ k. list_any is_clock (value_types k o.types)) (sym kind) ∙ own.clock_type) late;
          readable = each_member IsAnyType o.types t printable.readable whole;
        }

-- a wire has the type of a result that it stands for
pub wire_from : (at : Location) (move : Ref → Ref) (xs : List OpResult) (rs : List Ref) (y : Op) → In y (wire_ops at move xs rs)
    → (x : OpResult) × In x xs × (y.types ≡ x.type ∷ [])
wire_from at move [] rs y here = absurd here
wire_from at move (x ∷ xs) [] y (inl same) = (x, inl refl, ap (λ (z : Op). z.types) same)
wire_from at move (x ∷ xs) [] y (inr here) = let more = wire_from at move xs [] y here in (more.0, inr more.1, more.2)
wire_from at move (x ∷ xs) (r ∷ rs) y (inl same) = (x, inl refl, ap (λ (z : Op). z.types) same)
wire_from at move (x ∷ xs) (r ∷ rs) y (inr here) = let more = wire_from at move xs rs y here in (more.0, inr more.1, more.2)
