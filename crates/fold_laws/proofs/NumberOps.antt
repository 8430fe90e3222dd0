-- A constant of an integer type within the limits fits every body.
use Rattle.std.proofs.Common.{◌≡◌, ℕ, ◌^◌, ◌<◌, ◌≤◌, false, not, ◌||◌, nat_eq, List, None, refl, arith, pow_mono, lt_of_lt_of_le}
use Rattle.std.specs.Prelude.{nat_le}
use Rattle.std.proofs.lemmas.Bool.{ltb-false, lt-leb}
use Rattle.diag.specs.declared.cause.Cause.TheVariants as cause
use Rattle.hw_model.specs.Equality.{number_self}
use Rattle.hw_model.specs.Types.HwType.{int}
use Rattle.hw_model.specs.Design.{Location, Port, Op}
use Rattle.type_inference.specs.ResultTypes.{result_type, result_types, result_count}
use Rattle.op_checks.specs.TypeChecks.{is_outside}
use Rattle.op_checks.specs.LiteralChecks.{is_out_of_range}
use Rattle.op_checks.specs.CountChecks.{operands_written, operand_count, type_count, has_miscounted_parts, has_wrong_operands, has_wrong_results, has_wrong_count}
use Rattle.op_checks.specs.LimitChecks.{has_type_outside, has_constant_outside, has_extract_outside, has_broken_copy, has_wide_concat, has_unknown_divisor, has_wrong_index, has_wrong_field}
use Rattle.op_checks.specs.LimitChecks.{has_unequal_widths, has_clock_operand, has_clock_value}
use Rattle.op_checks.specs.OperandChecks.{has_other_form, has_other_operand, has_other_result, has_mismatch}
use Rattle.op_checks.specs.OwnChecks.{cause_if, own_cause}
use Rattle.op_checks.proofs.Widths.{neither}
use Rattle.op_verifier.specs.OpChecks.{alone_cause}
use Rattle.printing_laws.specs.Printable.{IsPrintableOp}
use Rattle.acceptance_laws.specs.Keeps.{IsFitting}
use Rattle.fold_laws.specs.Numbers.{number_op}

-- an integer type within the limits has at most 128 bits
pub bits_limit : (w : ℕ) → is_outside (int w) ≡ false → w ≤ 128
unfolding is_outside
bits_limit w within =
    let part = neither _ _ within in
    ltb-false 128 w (neither _ _ part.0).1

no_cause : (w n : ℕ) → is_outside (int w) ≡ false → nat_le (2 ^ w) n ≡ false
    → cause_if (not (nat_eq w w) || false) cause.TypeMismatch (cause_if ((is_outside (int w) || false) || false) cause.WidthLimit (cause_if (nat_le (2 ^ w) n) cause.ConstantRange None)) ≡ None
no_cause w n within small = rw (number_self w, within, small) refl

alone_none : (ports : List Port) (os : List Op) (w n : ℕ) (location : Location) → is_outside (int w) ≡ false → n < 2 ^ w → alone_cause ports os (number_op n (int w) location) ≡ None
unfolding own_cause has_mismatch has_other_form has_other_operand has_other_result result_type result_types result_count has_type_outside has_constant_outside is_out_of_range has_extract_outside has_broken_copy has_wide_concat has_unknown_divisor has_wrong_index has_wrong_field has_unequal_widths has_clock_operand has_clock_value has_wrong_count has_wrong_operands has_wrong_results has_miscounted_parts operands_written operand_count type_count
alone_none ports os w n location within small = no_cause w n within (lt-leb (2 ^ w) n small)

number_printable : (ports : List Port) (os : List Op) (w n : ℕ) (location : Location) → is_outside (int w) ≡ false → n < 2 ^ w → IsPrintableOp ports os (number_op n (int w) location)
unfolding result_type result_types operands_written type_count
number_printable ports os w n location within small =
    let limit : w ≤ 128 = bits_limit w within in
    record {
      defined = tt;
      operands = refl;
      types = refl;
      readable = (omega arith, tt);
      results = refl;
      named = refl;
      few = λ is. cc;
      kept = refl;
      written = lt_of_lt_of_le small (pow_mono {i = w} {j = 128} limit);
      nameless = λ is. refl;
      name = tt;
      dictionary = record { in_order = tt; kept = tt; entries = tt };
      bin = λ is. cc;
    }

pub number_fits : (ports : List Port) (os : List Op) (w n : ℕ) (location : Location) → is_outside (int w) ≡ false → n < 2 ^ w → IsFitting ports os (number_op n (int w) location)
number_fits ports os w n location within small = record {
  values = refl;
  alone = alone_none ports os w n location within small;
  printable = number_printable ports os w n location within small;
}
