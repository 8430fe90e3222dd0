-- Why an operation by itself is refused: by its kind, the types that it writes, its results and the types of its operands.
use Rattle.std.specs.Prelude.{ℕ, Bool, cond, List, Option, Some, None}
use Rattle.hw_model.specs.Types.{HwType}
use Rattle.hw_model.specs.Kinds.{Kind}
use Rattle.diag.specs.declared.cause.Cause.{Cause}
use Rattle.diag.specs.declared.cause.Cause.TheVariants as cause
use Rattle.op_checks.specs.OperandChecks.{has_mismatch}
use Rattle.op_checks.specs.LimitChecks.{has_type_outside, has_constant_outside, has_extract_outside, has_broken_copy, has_wide_concat, has_unknown_divisor, has_wrong_index, has_wrong_field, has_unequal_widths, has_clock_value}
use Rattle.op_checks.specs.CountChecks.{has_wrong_count}

-- a cause where its test holds, else what else there is
abbrev pub cause_if : Bool → Cause → Option Cause → Option Cause
cause_if holds c rest = cond holds (Some c) rest

-- the lowest cause, of those that an operation has by itself: `named` results are named, None among the operands' types
-- `xs` is compared with nothing, and `is_known` says that the divisor is the result of a nonzero hw.constant
unfoldable pub own_cause : Kind → List HwType → List HwType → ℕ → List (Option HwType) → Bool → Option Cause
own_cause kind ts rs named xs is_known =
    cause_if (has_mismatch kind ts rs xs) cause.TypeMismatch
    (cause_if (has_type_outside kind ts rs) cause.WidthLimit
    (cause_if (has_constant_outside kind ts) cause.ConstantRange
    (cause_if (has_extract_outside kind ts) cause.ExtractRange
    (cause_if (has_broken_copy kind ts) cause.ReplicateMultiple
    (cause_if (has_wide_concat kind ts) cause.ConcatWidth
    (cause_if (has_unknown_divisor kind is_known) cause.Divisor
    (cause_if (has_wrong_index kind ts xs) cause.IndexWidth
    (cause_if (has_wrong_field kind ts) cause.Field
    (cause_if (has_unequal_widths kind ts) cause.BitcastWidth
    (cause_if (has_clock_value kind ts xs) cause.ClockOperand
    (cause_if (has_wrong_count kind ts rs named xs) cause.Arity None)))))))))))
