-- The causes of an operation of any number of operands: with fewer of them it has none where it had none.
use Rattle.std.proofs.Common.{◌≡◌, ℕ, ◌≤◌, max, Bool, false, not, ◌||◌, nat_eq, List, [], ◌∷◌, length, Option, None, refl, sym, ap, ◌∙◌, inl, inr, arith}
use Rattle.std.specs.List.{list_any}
use Rattle.wiring.specs.Wiring.{In}
use Rattle.diag.specs.declared.cause.Cause.TheVariants as cause
use Rattle.hw_model.specs.Equality.{number_self}
use Rattle.hw_model.specs.Types.{HwType}
use Rattle.hw_model.specs.Kinds.{Variadic}
use Rattle.hw_model.specs.Kinds.Kind.{variadic}
use Rattle.type_inference.specs.ResultTypes.{first_type, result_type as type_of_result, result_types, result_count}
use Rattle.op_checks.specs.TypeLists.{known_types, differs, any_differs, differ}
use Rattle.op_checks.specs.TypeChecks.{is_int, is_outside, has_bad_field, has_clock_part, is_clock}
use Rattle.op_checks.specs.LimitChecks.{of_type, has_type_outside, has_constant_outside, has_extract_outside, has_broken_copy, has_wide_concat, has_unknown_divisor, has_wrong_index, has_wrong_field}
use Rattle.op_checks.specs.LimitChecks.{has_unequal_widths, has_clock_operand, has_clock_value}
use Rattle.op_checks.specs.CountChecks.{operands_written, operand_count, type_count, has_miscounted_parts, has_wrong_operands, has_wrong_results, has_wrong_count}
use Rattle.op_checks.specs.OperandChecks.{has_other_form, has_other_operand, has_other_result, has_mismatch}
use Rattle.op_checks.specs.OwnChecks.{cause_if, own_cause}
use Rattle.op_checks.proofs.NoOwnCause.{NoOwnCause}
use Rattle.op_checks.proofs.Widths.{neither}

-- ---- causes

-- what none of more is, none of fewer is
none_of_fewer : {A : Type 0} (test : A → Bool) (xs ys : List A) → ((y : A) → In y ys → In y xs) → list_any test xs ≡ false → list_any test ys ≡ false
none_of_fewer {A} test xs [] within none = refl
none_of_fewer {A} test xs (y ∷ ys) within none =
    let first : test y ≡ false = none_at xs y (within y (inl refl)) none in
    let rest : list_any test ys ≡ false = none_of_fewer test xs ys (λ z here. within z (inr here)) none in
    rw (first, rest) refl
  where
    none_at : (xs : List A) (y : A) → In y xs → list_any test xs ≡ false → test y ≡ false
    none_at [] y here none = absurd here
    none_at (x ∷ xs) y (inl same) none = ap test same ∙ (neither (test x) (list_any test xs) none).0
    none_at (x ∷ xs) y (inr here) none = none_at xs y here (neither (test x) (list_any test xs) none).1

differs_any : (xs : List (Option HwType)) (t : Option HwType) → any_differs xs t ≡ list_any (λ x. differs x t) xs
differs_any [] t = refl
differs_any (x ∷ xs) t = ap (λ b. differs x t || b) (differs_any xs t)

none_differs : (xs ys : List (Option HwType)) (t : Option HwType) → ((y : Option HwType) → In y ys → In y xs) → any_differs xs t ≡ false → any_differs ys t ≡ false
none_differs xs ys t within none = differs_any ys t ∙ none_of_fewer (λ x. differs x t) xs ys within (sym (differs_any xs t) ∙ none)

-- the causes of an operation of any number of operands, those that hold of none left out
causes_none : (form operand result written field part clock other : Bool) (n m : ℕ) (ts rs : ℕ) (named : ℕ)
    → form ≡ false → operand ≡ false → result ≡ false → written ≡ false → field ≡ false → part ≡ false → clock ≡ false → other ≡ false
    → n ≡ m → ts ≡ 1 → named ≡ 1 → rs ≡ 1
    → cause_if (form || (operand || result)) cause.TypeMismatch
    (cause_if (written || false) cause.WidthLimit
    (cause_if (field || false) cause.Field
    (cause_if (part || (clock || other)) cause.ClockOperand
    (cause_if ((not (nat_eq n m) || not (nat_eq ts 1)) || ((not (nat_eq named 1) || not (nat_eq rs 1)) || false)) cause.Arity None)))) ≡ None
causes_none form operand result written field part clock other n m ts rs named a b c d e f g h i j k l =
    rw (a, b, c, d, e, f, g, h, i, j, k, l, number_self m) refl

pub variadic_none : (v : Variadic) (ts rs : List HwType) (named n : ℕ) (xs ys : List (Option HwType)) (known known' : Bool)
    → NoOwnCause (variadic v) ts rs named n xs known → ((y : Option HwType) → In y ys → In y xs) → 1 ≤ length ys
    → own_cause (variadic v) ts rs named ys known' ≡ None
unfolding own_cause has_mismatch has_other_form has_other_operand has_other_result type_of_result result_types result_count has_type_outside has_constant_outside has_extract_outside has_broken_copy has_wide_concat has_unknown_divisor has_wrong_index has_wrong_field has_unequal_widths has_clock_operand has_clock_value has_wrong_count has_wrong_operands has_wrong_results has_miscounted_parts operands_written operand_count type_count
variadic_none v ts rs named n xs ys known known' own within some =
    causes_none (list_any (λ (t : HwType). not (is_int t)) ts) (any_differs ys (first_type ts)) (differ (known_types rs) (first_type ts ∷ []))
    (list_any is_outside ts) (list_any has_bad_field ts) (list_any has_clock_part ts) (list_any is_clock ts) (list_any (of_type is_clock) ys)
    (length ys) (max 1 (length ys)) (length ts) (length rs) named
    own.form (none_differs xs ys (first_type ts) within own.operand) own.result own.written own.field_names own.clock_part own.clock_type
    (none_of_fewer (of_type is_clock) xs ys within own.clock_operand)
    (omega arith) own.types own.names own.results
