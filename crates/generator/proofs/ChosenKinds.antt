-- What holds of each of the operations among which is drawn.
use Rattle.std.proofs.Common.{◌≡◌, ℕ, zero, suc, Bool, false, [], ◌∷◌, Some, None, refl}
use Rattle.std.specs.Prelude.{◌%◌, slice_index_or}
use Rattle.hw_model.specs.Types.{Name}
use Rattle.hw_model.specs.Kinds.{Kind, Variadic, Shift}
use Rattle.hw_model.specs.Kinds.Variadic.{add, mul, and, or, xor}
use Rattle.hw_model.specs.Kinds.Shift.{shl, shrs}
use Rattle.hw_model.specs.Kinds.Kind.{variadic, sub, shift}
use Rattle.hw_model.specs.Design.{instance_in, is_output_kind, register_form}
use Rattle.hw_model.specs.Flat.{has_async_reset}
use Rattle.hw_model.specs.Weight.{kind_weight}
use Rattle.type_inference.specs.ResultTypes.{result_type, result_types, result_count}
use Rattle.stored_form.specs.Kinds.{KeepsConstants, IsWritten}
use Rattle.op_checks.specs.TypeChecks.{is_outside}
use Rattle.op_checks.specs.CountChecks.{operands_written, operand_count, type_count, has_miscounted_parts, has_wrong_operands, has_wrong_results, has_wrong_count}
use Rattle.op_checks.specs.LimitChecks.{has_type_outside, has_constant_outside, has_extract_outside, has_broken_copy, has_wide_concat, has_unknown_divisor, has_wrong_index, has_wrong_field}
use Rattle.op_checks.specs.LimitChecks.{has_unequal_widths, has_clock_operand, has_clock_value}
use Rattle.op_checks.specs.OperandChecks.{has_other_form, has_other_operand, has_other_result, has_mismatch}
use Rattle.op_checks.specs.OwnChecks.{own_cause}
use Rattle.generator.specs.Generated.{word, drawn_kinds, chosen_kind}

-- an operation of the kind with two words for operands gives a word, and is nothing else to its module
pub record IsBinary (kind : Kind) : Type 0 where
  pub no_instance : instance_in kind ≡ None
  pub no_output : is_output_kind kind ≡ false
  pub no_register : register_form kind ≡ None
  pub no_reset : has_async_reset kind ≡ false
  pub settles : result_types kind (word ∷ []) 2 ≡ Some word ∷ []
  pub own : (known : Bool) → own_cause kind (word ∷ []) (word ∷ []) 1 (Some word ∷ Some word ∷ []) known ≡ None
  pub weighs : (inner : Name → ℕ) → kind_weight inner kind (word ∷ []) 2 ≡ 3
  pub kept : KeepsConstants kind (word ∷ [])
  pub written : IsWritten kind

pub binary_variadic : (v : Variadic) → IsBinary (variadic v)
unfolding result_type result_types result_count is_outside operands_written operand_count type_count has_miscounted_parts has_wrong_operands has_wrong_results has_wrong_count has_type_outside has_constant_outside has_extract_outside has_broken_copy has_wide_concat has_unknown_divisor has_wrong_index has_wrong_field has_unequal_widths has_clock_operand has_clock_value has_other_form has_other_operand has_other_result has_mismatch own_cause
binary_variadic v = record {
  no_instance = refl;
  no_output = refl;
  no_register = refl;
  no_reset = refl;
  settles = refl;
  own = λ known. refl;
  weighs = λ inner. refl;
  kept = tt;
  written = tt;
}

binary_shift : (s : Shift) → IsBinary (shift s)
unfolding result_type result_types result_count is_outside operands_written operand_count type_count has_miscounted_parts has_wrong_operands has_wrong_results has_wrong_count has_type_outside has_constant_outside has_extract_outside has_broken_copy has_wide_concat has_unknown_divisor has_wrong_index has_wrong_field has_unequal_widths has_clock_operand has_clock_value has_other_form has_other_operand has_other_result has_mismatch own_cause
binary_shift s = record {
  no_instance = refl;
  no_output = refl;
  no_register = refl;
  no_reset = refl;
  settles = refl;
  own = λ known. refl;
  weighs = λ inner. refl;
  kept = tt;
  written = tt;
}

binary_sub : IsBinary sub
unfolding result_type result_types result_count is_outside operands_written operand_count type_count has_miscounted_parts has_wrong_operands has_wrong_results has_wrong_count has_type_outside has_constant_outside has_extract_outside has_broken_copy has_wide_concat has_unknown_divisor has_wrong_index has_wrong_field has_unequal_widths has_clock_operand has_clock_value has_other_form has_other_operand has_other_result has_mismatch own_cause
binary_sub = record {
  no_instance = refl;
  no_output = refl;
  no_register = refl;
  no_reset = refl;
  settles = refl;
  own = λ known. refl;
  weighs = λ inner. refl;
  kept = tt;
  written = tt;
}

binary_at : (i : ℕ) → IsBinary (slice_index_or drawn_kinds i sub)
binary_at zero = binary_variadic add
binary_at (suc zero) = binary_sub
binary_at (suc (suc zero)) = binary_variadic mul
binary_at (suc (suc (suc zero))) = binary_variadic and
binary_at (suc (suc (suc (suc zero)))) = binary_variadic or
binary_at (suc (suc (suc (suc (suc zero))))) = binary_variadic xor
binary_at (suc (suc (suc (suc (suc (suc zero)))))) = binary_shift shl
binary_at (suc (suc (suc (suc (suc (suc (suc zero))))))) = binary_shift shrs
binary_at (suc (suc (suc (suc (suc (suc (suc (suc i)))))))) = binary_sub

-- so of each that a number chooses
pub binary_chosen : (n : ℕ) → IsBinary (chosen_kind n)
binary_chosen n = binary_at (n % 8)
