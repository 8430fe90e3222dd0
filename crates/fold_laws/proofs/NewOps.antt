-- New operations in the place of others: they can be printed, and an operation of which each cause is absent has none.
use Rattle.std.proofs.Common.{◌≡◌, ℕ, Bool, true, false, not, ◌||◌, nat_eq, List, [], ◌∷◌, length, map, Option, None, refl, sym, ap, subst, ◌∙◌}
use Rattle.wiring.specs.Wiring.{In}
use Rattle.wiring.proofs.Members.{In-slice_get}
use Rattle.diag.specs.declared.cause.Cause.TheVariants as cause
use Rattle.hw_model.specs.Equality.{number_self}
use Rattle.hw_model.specs.Opcodes.{opcode_of}
use Rattle.hw_model.specs.Types.{HwType}
use Rattle.hw_model.specs.Kinds.{Kind}
use Rattle.hw_model.specs.Design.{Ref, Port, Op}
use Rattle.type_inference.specs.ResultTypes.{result_type as type_of_result, result_count}
use Rattle.stored_form.specs.Bytes.{Each}
use Rattle.stored_form.specs.Dictionaries.{takes_bin, string_keys, IsKeptDictionary}
use Rattle.stored_form.specs.Kinds.{KeepsConstants, IsWritten}
use Rattle.stored_form.specs.Limits.{IsAnyType}
use Rattle.stored_form.specs.ResultTypes.{type_or_none}
use Rattle.op_checks.specs.CountChecks.{operands_written, operand_count, type_count, has_wrong_operands, has_wrong_results, has_wrong_count}
use Rattle.op_checks.specs.LimitChecks.{has_type_outside, has_wrong_field, has_clock_value}
use Rattle.op_checks.specs.OperandChecks.{has_other_result, has_mismatch}
use Rattle.op_checks.specs.OwnChecks.{cause_if, own_cause}
use Rattle.op_checks.proofs.NoOwnCause.{NoOwnCause}
use Rattle.printing_laws.specs.NameHints.{is_pack}
use Rattle.printing_laws.specs.Printable.{IsDefined, IsPrintableOp, settled_result}
use Rattle.acceptance_laws.proofs.Accepted.{each_from}
use Rattle.fold_laws.specs.Nested.{new_op}
use Rattle.fold_laws.proofs.MadeKinds.{is_made, made_one_result}

-- ---- causes

equal_numbers : (m n : ℕ) → m ≡ n → not (nat_eq m n) ≡ false
equal_numbers m n same = ap (λ a. not (nat_eq a n)) same ∙ ap not (number_self n)

none_of_three : (a b c : Bool) → a ≡ false → b ≡ false → c ≡ false → a || (b || c) ≡ false
none_of_three a b c p q r = rw (p, q, r) refl

none_of_two : (a b : Bool) → a ≡ false → b ≡ false → a || b ≡ false
none_of_two a b p q = rw (p, q) refl

-- no cause where none of the tests holds
none_caused : (a b c d e f g h i j k l : Bool) → a ≡ false → b ≡ false → c ≡ false → d ≡ false → e ≡ false → f ≡ false → g ≡ false → h ≡ false → i ≡ false → j ≡ false
    → k ≡ false → l ≡ false
    → cause_if a cause.TypeMismatch (cause_if b cause.WidthLimit (cause_if c cause.ConstantRange (cause_if d cause.ExtractRange (cause_if e cause.ReplicateMultiple
    (cause_if f cause.ConcatWidth (cause_if g cause.Divisor (cause_if h cause.IndexWidth (cause_if i cause.Field (cause_if j cause.BitcastWidth (cause_if k cause.ClockOperand
    (cause_if l cause.Arity None))))))))))) ≡ None
none_caused a b c d e f g h i j k l pa pb pc pd pe pf pg ph pi pj pk pl = rw (pa, pb, pc, pd, pe, pf, pg, ph, pi, pj, pk, pl) refl

module _ (kind : Kind) (ts rs : List HwType) (named : ℕ) (xs : List (Option HwType)) (known : Bool) (none : NoOwnCause kind ts rs named (length xs) xs known) where
  no_mismatch : has_mismatch kind ts rs xs ≡ false
  unfolding has_mismatch has_other_result
  no_mismatch = none_of_three _ _ _ none.form none.operand none.result

  no_outside : has_type_outside kind ts rs ≡ false
  unfolding has_type_outside
  no_outside = none_of_three _ _ _ none.written none.leaf none.array

  no_wrong_field : has_wrong_field kind ts ≡ false
  unfolding has_wrong_field
  no_wrong_field = none_of_two _ _ none.field_names none.field

  no_clock : has_clock_value kind ts xs ≡ false
  unfolding has_clock_value
  no_clock = none_of_three _ _ _ none.clock_part none.clock_type none.clock_operand

  right_counts : has_wrong_count kind ts rs named xs ≡ false
  unfolding has_wrong_count has_wrong_operands has_wrong_results
  right_counts =
      none_of_three _ _ _
      (none_of_two _ _ (equal_numbers (length xs) (operand_count kind ts (length xs)) none.operands) (equal_numbers (length ts) (type_count kind (length xs)) none.types))
      (none_of_two _ _ (equal_numbers named (result_count kind ts) none.names) (equal_numbers (length rs) (result_count kind ts) none.results))
      none.parts

  pub own_none : own_cause kind ts rs named xs known ≡ None
  unfolding own_cause
  own_none =
      none_caused _ _ _ _ _ _ _ _ _ _ _ _ no_mismatch no_outside none.constant none.extract none.copy none.wide none.divisor none.index no_wrong_field none.widths no_clock
      right_counts

-- ---- printing

-- a new operation of the opcode of o can be printed where its operands, types and kind can
pub new_printable : (ports : List Port) (os : List Op) (o : Op) (kind : Kind) (rs : List Ref) (ts : List HwType) (t : HwType) → IsPrintableOp ports os o
    → opcode_of kind ≡ opcode_of o.kind → ((r : Ref) → In r rs → IsDefined ports os r) → length rs ≡ operands_written kind (length rs) → length ts ≡ type_count kind (length rs)
    → Each IsAnyType ts → is_made kind ≡ true → t ≡ type_or_none (type_of_result kind ts (length rs)) → is_pack kind 1 ≡ false → KeepsConstants kind ts → IsWritten kind
    → IsPrintableOp ports os (new_op o kind rs ts t)
new_printable ports os o kind rs ts t old code defined operands types readable made settled pack kept written = record {
  defined = each_from (IsDefined ports os) rs (λ j r is. defined r (In-slice_get r rs j is));
  operands = operands;
  types = types;
  readable = readable;
  results = ap (λ (u : HwType). record { type = u; again = false } ∷ []) settled ∙ sym (ap (map settled_result) (made_one_result kind ts (length rs) made));
  named = refl;
  few = λ is. let clash : true ≡ false = sym is ∙ pack in cc;
  kept = kept;
  written = written;
  nameless = λ is. refl;
  name = tt;
  dictionary = subst (λ c. IsKeptDictionary c (string_keys c) o.dictionary) (sym code) old.dictionary;
  bin = λ is. subst (λ c. takes_bin c ≡ true) (sym code) (old.bin is);
}
