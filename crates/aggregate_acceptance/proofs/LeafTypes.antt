-- The leaves of types that are within the limits.
use Rattle.std.proofs.Common.{◌≡◌, ◌⊎◌, ℕ, ◌≤◌, true, false, ◌==◌, nat_lt, refl, ap, ◌∙◌, inl, inr, arith}
use Rattle.std.proofs.lemmas.Bool.{ltb-false}
use Rattle.wiring.specs.Wiring.{In}
use Rattle.wiring.proofs.Members.{In-append_cases}
use Rattle.hw_model.specs.Types.{HwType, FieldTypes, leaves, leaves_of_fields}
use Rattle.hw_model.specs.Types.HwType.{int, clock, array, struct}
use Rattle.hw_model.specs.Types.FieldTypes.{no_fields, field}
use Rattle.stored_form.specs.Limits.{IsAnyType}
use Rattle.op_checks.specs.TypeChecks.{has_bad_part, has_bad_part_among, is_without_fields, is_outside, has_clock, has_clock_among, has_clock_part, is_clock, has_bad_field}
use Rattle.op_checks.proofs.Widths.{neither}
use Rattle.op_checks.proofs.Owned.{integer_outside, clock_outside}
use Rattle.aggregate_laws.specs.Aggregates.{is_scalar}
use Rattle.aggregate_laws.proofs.Scalars.{from_copies, leaf_scalar}

-- ---- leaves

mutual
  -- each is within the limits where the whole is
  pub leaf_part : (t u : HwType) → has_bad_part t ≡ false → In u (leaves t) → has_bad_part u ≡ false
  leaf_part (int w) u good (inl same) = ap has_bad_part same ∙ good
  leaf_part (int w) u good (inr never) = absurd never
  leaf_part clock u good (inl same) = ap has_bad_part same
  leaf_part clock u good (inr never) = absurd never
  leaf_part (array n t) u good here = leaf_part t u (neither (n == 0) (has_bad_part t) good).1 (from_copies n (leaves t) u here)
  leaf_part (struct fs) u good here = field_part fs u (neither (is_without_fields fs) (has_bad_part_among fs) good).1 here

  field_part : (fs : FieldTypes) (u : HwType) → has_bad_part_among fs ≡ false → In u (leaves_of_fields fs) → has_bad_part u ≡ false
  field_part no_fields u good here = absurd here
  field_part (field name t fs) u good here =
      go (neither (has_bad_part t) (has_bad_part_among fs) good).0 (neither (has_bad_part t) (has_bad_part_among fs) good).1
      (In-append_cases u (leaves t) (leaves_of_fields fs) here) (leaf_part t u) (field_part fs u)
    where
      go : has_bad_part t ≡ false → has_bad_part_among fs ≡ false → In u (leaves t) ⊎ In u (leaves_of_fields fs)
          → (has_bad_part t ≡ false → In u (leaves t) → has_bad_part u ≡ false)
          → (has_bad_part_among fs ≡ false → In u (leaves_of_fields fs) → has_bad_part u ≡ false) → has_bad_part u ≡ false
      go a b (inl there) first rest = first a there
      go a b (inr there) first rest = rest b there

mutual
  -- none is a clock where no part of the whole is
  pub leaf_clock : (t u : HwType) → has_clock t ≡ false → In u (leaves t) → has_clock u ≡ false
  leaf_clock (int w) u none (inl same) = ap has_clock same
  leaf_clock (int w) u none (inr never) = absurd never
  leaf_clock clock u none here = cc
  leaf_clock (array n t) u none here = leaf_clock t u none (from_copies n (leaves t) u here)
  leaf_clock (struct fs) u none here = field_clock fs u none here

  field_clock : (fs : FieldTypes) (u : HwType) → has_clock_among fs ≡ false → In u (leaves_of_fields fs) → has_clock u ≡ false
  field_clock no_fields u none here = absurd here
  field_clock (field name t fs) u none here =
      go (neither (has_clock t) (has_clock_among fs) none).0 (neither (has_clock t) (has_clock_among fs) none).1
      (In-append_cases u (leaves t) (leaves_of_fields fs) here) (leaf_clock t u) (field_clock fs u)
    where
      go : has_clock t ≡ false → has_clock_among fs ≡ false → In u (leaves t) ⊎ In u (leaves_of_fields fs)
          → (has_clock t ≡ false → In u (leaves t) → has_clock u ≡ false)
          → (has_clock_among fs ≡ false → In u (leaves_of_fields fs) → has_clock u ≡ false) → has_clock u ≡ false
      go a b (inl there) first rest = first a there
      go a b (inr there) first rest = rest b there

-- ---- types without parts

pub scalar_outside : (u : HwType) → is_scalar u ≡ true → has_bad_part u ≡ false → is_outside u ≡ false
scalar_outside (int w) is good = integer_outside w ∙ good
scalar_outside clock is good = clock_outside ∙ good
scalar_outside (array n t) is good = cc
scalar_outside (struct fs) is good = cc

pub scalar_fields : (u : HwType) → is_scalar u ≡ true → has_bad_field u ≡ false
scalar_fields (int w) is = refl
scalar_fields clock is = refl
scalar_fields (array n t) is = cc
scalar_fields (struct fs) is = cc

pub scalar_parts : (u : HwType) → is_scalar u ≡ true → has_clock_part u ≡ false
scalar_parts (int w) is = refl
scalar_parts clock is = refl
scalar_parts (array n t) is = cc
scalar_parts (struct fs) is = cc

pub clock_of : (u : HwType) → has_clock u ≡ false → is_clock u ≡ false
clock_of (int w) none = refl
clock_of clock none = cc
clock_of (array n t) none = refl
clock_of (struct fs) none = refl

-- no part of a type is a clock where the type is none, and no part within it is
pub no_clock : (t : HwType) → is_clock t ≡ false → has_clock_part t ≡ false → has_clock t ≡ false
no_clock (int w) own within = refl
no_clock clock own within = cc
no_clock (array n t) own within = within
no_clock (struct fs) own within = within

-- of an integer's bits
pub few_bits : (w : ℕ) → has_bad_part (int w) ≡ false → w ≤ 128
few_bits w good = ltb-false 128 w (neither (w == 0) (nat_lt 128 w) good).1

pub scalar_readable : (u : HwType) → is_scalar u ≡ true → has_bad_part u ≡ false → IsAnyType u
scalar_readable (int w) is good = let few : w ≤ 128 = few_bits w good in omega arith
scalar_readable clock is good = tt
scalar_readable (array n t) is good = cc
scalar_readable (struct fs) is good = cc

-- what is not outside the limits has no part outside
pub no_bad_part : (t : HwType) → is_outside t ≡ false → has_bad_part t ≡ false
unfolding is_outside
no_bad_part t within = (neither (has_bad_part t) _ within).0

-- ---- integers of 1 to 128 bits

-- the type is an integer's, within the limits
pub record IsNarrow (t : HwType) : Type 0 where
  pub bits : ℕ
  pub is : t ≡ int bits
  pub within : has_bad_part (int bits) ≡ false

-- a value's type: no part is outside the limits, and none is a clock
pub record IsValueType (t : HwType) : Type 0 where
  pub parts : has_bad_part t ≡ false
  pub clocks : has_clock t ≡ false

narrow_scalar : (u : HwType) → is_scalar u ≡ true → has_bad_part u ≡ false → has_clock u ≡ false → IsNarrow u
narrow_scalar (int w) is good none = record { bits = w; is = refl; within = good }
narrow_scalar clock is good none = cc
narrow_scalar (array n t) is good none = cc
narrow_scalar (struct fs) is good none = cc

-- its leaves are such integers
pub leaf_narrow : (t : HwType) → IsValueType t → (u : HwType) → In u (leaves t) → IsNarrow u
leaf_narrow t is u here = narrow_scalar u (leaf_scalar t u here) (leaf_part t u is.parts here) (leaf_clock t u is.clocks here)
