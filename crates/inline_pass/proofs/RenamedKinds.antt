-- An operation that is renamed has the same results, and is the same to the checks.
use Rattle.std.proofs.Common.{◌≡◌, ℕ, Bool, ◌&&◌, nat_eq, List, length, map, Option, Some, None, false, refl, ap, ap₂, ◌∙◌}
use Rattle.std.specs.Prelude.{is_some, slice_index_or}
use Rattle.std.proofs.lemmas.List.{length-map}
use Rattle.hw_model.specs.Types.{Name, HwType}
use Rattle.hw_model.specs.Kinds.{Kind, Instance}
use Rattle.hw_model.specs.Kinds.Kind.{instance}
use Rattle.hw_model.specs.Design.{Ref, Op, result_type}
use Rattle.hw_model.specs.Resets.{is_constant}
use Rattle.type_inference.specs.ResultTypes.{result_types, result_count}
use Rattle.op_checks.specs.OperandChecks.{has_other_form, has_other_operand, has_other_result, has_mismatch}
use Rattle.op_checks.specs.LimitChecks.{has_type_outside, has_constant_outside, has_extract_outside, has_broken_copy, has_wide_concat, has_unknown_divisor, has_wrong_index, has_wrong_field}
use Rattle.op_checks.specs.LimitChecks.{has_unequal_widths, has_clock_operand, has_clock_value}
use Rattle.op_checks.specs.CountChecks.{operands_written, operand_count, type_count, has_wrong_operands, has_wrong_results, has_miscounted_parts, has_wrong_count}
use Rattle.op_checks.specs.OwnChecks.{own_cause}
use Rattle.op_verifier.specs.OpChecks.{is_nonzero_kind}
use Rattle.edit_laws.specs.Edit.{retarget}
use Rattle.acceptance_laws.proofs.Values.{result_operand}
use Rattle.inline_pass.specs.Renaming.{joined_name, renamed_kind, renamed}

-- what does not look at the name of an instance is the same of a kind that is renamed
pub kind_same : {A : Type 0} (f : Kind → A) → ((i : Instance) (n : Name) → f (instance (record i { name = n })) ≡ f (instance i)) → (u : Name) (k : Kind)
    → f (renamed_kind u k) ≡ f k
kind_same f same u (instance i) = same i (joined_name u i.name)
kind_same f same u k = refl

pub own_cause_renamed : (u : Name) (k : Kind) (ts rs : List HwType) (named : ℕ) (xs : List (Option HwType)) (known : Bool)
    → own_cause (renamed_kind u k) ts rs named xs known ≡ own_cause k ts rs named xs known
unfolding own_cause has_mismatch has_other_form has_other_operand has_other_result result_types has_type_outside has_constant_outside has_extract_outside has_broken_copy has_wide_concat has_unknown_divisor has_wrong_index has_wrong_field has_unequal_widths has_clock_value has_clock_operand has_wrong_count has_wrong_operands has_wrong_results operand_count operands_written type_count has_miscounted_parts result_count
own_cause_renamed u k ts rs named xs known = kind_same (λ z. own_cause z ts rs named xs known) (λ i n. refl) u k

pub results_renamed : (u : Name) (k : Kind) (ts : List HwType) (n : ℕ) → result_types (renamed_kind u k) ts n ≡ result_types k ts n
unfolding result_types
results_renamed u k ts n = kind_same (λ z. result_types z ts n) (λ i m. refl) u k

-- what is asked of a result stays
pub operand_renamed : (u : Name) (f : Ref → Ref) (k : ℕ) (o : Op) → result_operand k (Some (renamed u (retarget f o))) ≡ result_operand k (Some o)
operand_renamed u f k o =
    ap (λ ts. record {
      defined = is_some (result_type o k);
      type = slice_index_or ts k None;
      known = nat_eq k 0 && is_nonzero_kind (renamed_kind u o.kind);
      constant = is_constant (renamed_kind u o.kind);
      input = false;
    }) (results_renamed u o.kind o.types (length (map f o.operands)) ∙ ap (result_types o.kind o.types) (length-map o.operands f))
    ∙ ap₂ (λ a b. record {
      defined = is_some (result_type o k);
      type = slice_index_or (result_types o.kind o.types (length o.operands)) k None;
      known = nat_eq k 0 && a;
      constant = b;
      input = false;
    }) (kind_same is_nonzero_kind (λ i n. refl) u o.kind) (kind_same is_constant (λ i n. refl) u o.kind)
