-- An operation without a cause of its own: what the absence of each cause says.
use Rattle.std.proofs.Common.{◌≡◌, ℕ, Bool, true, false, List, length, refl, subst}
use Rattle.std.specs.Prelude.{Option, Some, None}
use Rattle.std.specs.List.{list_any}
use Rattle.std.proofs.lemmas.List.{length-map}
use Rattle.diag.specs.declared.cause.Cause.{Cause}
use Rattle.hw_model.specs.Types.{HwType}
use Rattle.hw_model.specs.Kinds.{Kind}
use Rattle.type_inference.specs.ResultTypes.{result_types, result_count}
use Rattle.op_checks.specs.TypeChecks.{is_outside, has_bad_field, has_clock_part, is_clock}
use Rattle.op_checks.specs.TypeLists.{known_types, differ}
use Rattle.op_checks.specs.OperandChecks.{has_other_form, has_other_operand, has_other_result, has_mismatch}
use Rattle.op_checks.specs.LimitChecks.{has_outside_leaf, has_outside_array, has_type_outside, has_constant_outside, has_extract_outside, has_broken_copy, has_wide_concat, has_unknown_divisor}
use Rattle.op_checks.specs.LimitChecks.{has_wrong_index, has_unknown_field, has_wrong_field, has_unequal_widths, value_types, has_clock_operand, has_clock_value}
use Rattle.op_checks.specs.CountChecks.{operand_count, type_count, has_wrong_operands, has_wrong_results, has_miscounted_parts, has_wrong_count}
use Rattle.op_checks.specs.OwnChecks.{cause_if, own_cause}
use Rattle.op_checks.proofs.Widths.{neither}
use Rattle.op_checks.proofs.Agreeing.{same_number}

-- what holds of an operation without a cause of its own: of its kind, the types `ts` that it writes, the types `rs` of its
-- results, of which `named` are named, its `n` operands and their types `xs`, and whether its divisor is known to be no zero
pub record NoOwnCause (kind : Kind) (ts rs : List HwType) (named n : ℕ) (xs : List (Option HwType)) (is_known : Bool) : Type 0 where
  pub form : has_other_form kind ts ≡ false
  pub operand : has_other_operand kind ts xs ≡ false
  pub result : differ (known_types rs) (result_types kind ts n) ≡ false
  pub written : list_any is_outside ts ≡ false
  pub leaf : has_outside_leaf kind ≡ false
  pub array : has_outside_array kind rs ≡ false
  pub constant : has_constant_outside kind ts ≡ false
  pub extract : has_extract_outside kind ts ≡ false
  pub copy : has_broken_copy kind ts ≡ false
  pub wide : has_wide_concat kind ts ≡ false
  pub divisor : has_unknown_divisor kind is_known ≡ false
  pub index : has_wrong_index kind ts xs ≡ false
  pub field_names : list_any has_bad_field ts ≡ false
  pub field : has_unknown_field kind ts ≡ false
  pub widths : has_unequal_widths kind ts ≡ false
  pub clock_part : list_any has_clock_part ts ≡ false
  pub clock_type : list_any is_clock (value_types kind ts) ≡ false
  pub clock_operand : has_clock_operand kind xs ≡ false
  pub operands : n ≡ operand_count kind ts n
  pub types : length ts ≡ type_count kind n
  pub names : named ≡ result_count kind ts
  pub results : length rs ≡ result_count kind ts
  pub parts : has_miscounted_parts kind ts ≡ false

-- a test that stands before no cause does not hold
uncaused : (b : Bool) (c : Cause) (rest : Option Cause) → cause_if b c rest ≡ None → (b ≡ false) × (rest ≡ None)
uncaused false c rest h = (refl, h)
uncaused true c rest h = cc

-- the parts of tests that do not hold
mismatches : (kind : Kind) (ts rs : List HwType) (xs : List (Option HwType)) → has_mismatch kind ts rs xs ≡ false
    → (has_other_form kind ts ≡ false) × (has_other_operand kind ts xs ≡ false) × (differ (known_types rs) (result_types kind ts (length xs)) ≡ false)
unfolding has_mismatch has_other_result
mismatches kind ts rs xs h =
    let a = neither (has_other_form kind ts) _ h in
    let b = neither (has_other_operand kind ts xs) _ a.1 in
    (a.0, b.0, b.1)

outside : (kind : Kind) (ts rs : List HwType) → has_type_outside kind ts rs ≡ false
    → (list_any is_outside ts ≡ false) × (has_outside_leaf kind ≡ false) × (has_outside_array kind rs ≡ false)
unfolding has_type_outside
outside kind ts rs h =
    let a = neither (list_any is_outside ts) _ h in
    let b = neither (has_outside_leaf kind) _ a.1 in
    (a.0, b.0, b.1)

fields_known : (kind : Kind) (ts : List HwType) → has_wrong_field kind ts ≡ false → (list_any has_bad_field ts ≡ false) × (has_unknown_field kind ts ≡ false)
unfolding has_wrong_field
fields_known kind ts h = neither (list_any has_bad_field ts) _ h

clocks : (kind : Kind) (ts : List HwType) (xs : List (Option HwType)) → has_clock_value kind ts xs ≡ false
    → (list_any has_clock_part ts ≡ false) × (list_any is_clock (value_types kind ts) ≡ false) × (has_clock_operand kind xs ≡ false)
unfolding has_clock_value
clocks kind ts xs h =
    let a = neither (list_any has_clock_part ts) _ h in
    let b = neither (list_any is_clock (value_types kind ts)) _ a.1 in
    (a.0, b.0, b.1)

record Counts (kind : Kind) (ts : List HwType) (n count named : ℕ) : Type 0 where
  operands : n ≡ operand_count kind ts n
  types : length ts ≡ type_count kind n
  names : named ≡ result_count kind ts
  results : count ≡ result_count kind ts
  parts : has_miscounted_parts kind ts ≡ false

counts : (kind : Kind) (ts rs : List HwType) (named : ℕ) (xs : List (Option HwType)) → has_wrong_count kind ts rs named xs ≡ false
    → Counts kind ts (length xs) (length rs) named
unfolding has_wrong_count has_wrong_operands has_wrong_results
counts kind ts rs named xs h =
    let a = neither (has_wrong_operands kind ts (length xs)) _ h in
    let b = neither (has_wrong_results kind ts (length rs) named) _ a.1 in
    let c = neither _ _ a.0 in
    let d = neither _ _ b.0 in
    record {
      operands = same_number (length xs) (operand_count kind ts (length xs)) c.0;
      types = same_number (length ts) (type_count kind (length xs)) c.1;
      names = same_number named (result_count kind ts) d.0;
      results = same_number (length rs) (result_count kind ts) d.1;
      parts = b.1;
    }

by_types : (kind : Kind) (ts rs : List HwType) (named : ℕ) (xs : List (Option HwType)) (is_known : Bool) → own_cause kind ts rs named xs is_known ≡ None
    → NoOwnCause kind ts rs named (length xs) xs is_known
unfolding own_cause
by_types kind ts rs named xs is_known h =
    let p1 = uncaused (has_mismatch kind ts rs xs) _ _ h in
    let p2 = uncaused (has_type_outside kind ts rs) _ _ p1.1 in
    let p3 = uncaused (has_constant_outside kind ts) _ _ p2.1 in
    let p4 = uncaused (has_extract_outside kind ts) _ _ p3.1 in
    let p5 = uncaused (has_broken_copy kind ts) _ _ p4.1 in
    let p6 = uncaused (has_wide_concat kind ts) _ _ p5.1 in
    let p7 = uncaused (has_unknown_divisor kind is_known) _ _ p6.1 in
    let p8 = uncaused (has_wrong_index kind ts xs) _ _ p7.1 in
    let p9 = uncaused (has_wrong_field kind ts) _ _ p8.1 in
    let p10 = uncaused (has_unequal_widths kind ts) _ _ p9.1 in
    let p11 = uncaused (has_clock_value kind ts xs) _ _ p10.1 in
    let p12 = uncaused (has_wrong_count kind ts rs named xs) _ _ p11.1 in
    let m = mismatches kind ts rs xs p1.0 in
    let o = outside kind ts rs p2.0 in
    let f = fields_known kind ts p9.0 in
    let k = clocks kind ts xs p11.0 in
    let c = counts kind ts rs named xs p12.0 in
    record {
      form = m.0;
      operand = m.1;
      result = m.2;
      written = o.0;
      leaf = o.1;
      array = o.2;
      constant = p3.0;
      extract = p4.0;
      copy = p5.0;
      wide = p6.0;
      divisor = p7.0;
      index = p8.0;
      field_names = f.0;
      field = f.1;
      widths = p10.0;
      clock_part = k.0;
      clock_type = k.1;
      clock_operand = k.2;
      operands = c.operands;
      types = c.types;
      names = c.names;
      results = c.results;
      parts = c.parts;
    }

-- an operation without a cause of its own, over the number of its operands
pub no_own_cause : (kind : Kind) (ts rs : List HwType) (named n : ℕ) (xs : List (Option HwType)) (is_known : Bool) → length xs ≡ n → own_cause kind ts rs named xs is_known ≡ None
    → NoOwnCause kind ts rs named n xs is_known
no_own_cause kind ts rs named n xs is_known same h = subst (λ (m : ℕ). NoOwnCause kind ts rs named m xs is_known) same (by_types kind ts rs named xs is_known h)

-- where the types of its operands are all settled
pub no_settled_cause : (kind : Kind) (ts rs : List HwType) (named : ℕ) (us : List HwType) (is_known : Bool) → own_cause kind ts rs named (known_types us) is_known ≡ None
    → NoOwnCause kind ts rs named (length us) (known_types us) is_known
no_settled_cause kind ts rs named us is_known h = no_own_cause kind ts rs named (length us) (known_types us) is_known (length-map us (λ (t : HwType). Some t)) h
