-- A constant of an aggregate type against that type: a list of constants where there are parts, an integer of the
-- leaf's type where there are none (CIRCT, HW dialect: `hw.aggregate_constant`).
use Rattle.std.specs.Prelude.{ℕ, zero, suc, ℤ, pos, negsuc, ◌-◌, ◌^◌, Bool, true, false, not, ◌||◌, nat_eq, nat_le, length}
use Rattle.hw_model.specs.Types.{HwType, FieldTypes}
use Rattle.hw_model.specs.Types.HwType.{int, array, struct}
use Rattle.hw_model.specs.Types.FieldTypes.{no_fields, field}
use Rattle.hw_model.specs.Kinds.{Literal, Literals}
use Rattle.hw_model.specs.Kinds.Literal.{leaf, parts}
use Rattle.hw_model.specs.Kinds.Literals.{no_literals, literal}
use Rattle.hw_model.specs.SameType.{same_type}
use Rattle.hw_model.specs.Sound.{field_list}
use Rattle.op_checks.specs.TypeChecks.{is_outside, is_int}
use Rattle.op_checks.specs.declared.literal_checks.LeafTest.{LeafTest}
use Rattle.op_checks.specs.declared.literal_checks.LeafTest.TheVariants.{Kind, Width, Range}

-- whether an integer is below -2^(w - 1) or above 2^w - 1
unfoldable pub is_out_of_range : ℤ → ℕ → Bool
is_out_of_range (pos n) w = nat_le (2 ^ w) n
is_out_of_range (negsuc n) w = nat_le (2 ^ (w - 1)) n

-- whether an integer is outside its type: a type that is no integer has no range
abbrev pub is_outside_type : ℤ → HwType → Bool
is_outside_type z (int w) = is_out_of_range z w
is_outside_type z _ = false

-- how many constants there are
abbrev pub literal_count : Literals → ℕ
literal_count no_literals = zero
literal_count (literal l ls) = suc (literal_count ls)

-- the type that a leaf writes differs from the integer's that is due
abbrev pub leaf_differs : HwType → HwType → Bool
leaf_differs u (int w) = not (same_type u (int w))
leaf_differs u _ = true

abbrev mutual
  -- whether a leaf's type is another, or a list stands for a leaf or a leaf for a list
  pub literal_differs : Literal → HwType → Bool
  literal_differs (leaf z u) t = leaf_differs u t
  literal_differs (parts ls) (array n t) = any_literal_differs ls t
  literal_differs (parts ls) (struct fs) = literals_differ ls fs
  literal_differs (parts ls) _ = true

  -- each against one type, also past the end of an array
  pub any_literal_differs : Literals → HwType → Bool
  any_literal_differs no_literals t = false
  any_literal_differs (literal l ls) t = literal_differs l t || any_literal_differs ls t

  -- each against its field
  pub literals_differ : Literals → FieldTypes → Bool
  literals_differ no_literals fs = false
  literals_differ (literal l ls) no_fields = false
  literals_differ (literal l ls) (field name t fs) = literal_differs l t || literals_differ ls fs

abbrev mutual
  -- whether an aggregate has another number of parts than its type
  pub is_miscounted : Literal → HwType → Bool
  is_miscounted (leaf z u) t = false
  is_miscounted (parts ls) (array n t) = not (nat_eq (literal_count ls) n) || any_miscounted ls t
  is_miscounted (parts ls) (struct fs) = not (nat_eq (literal_count ls) (length (field_list fs))) || are_miscounted ls fs
  is_miscounted (parts ls) _ = false

  -- whether one of the parts of an array has
  pub any_miscounted : Literals → HwType → Bool
  any_miscounted no_literals t = false
  any_miscounted (literal l ls) t = is_miscounted l t || any_miscounted ls t

  -- whether one of the parts of a struct has
  pub are_miscounted : Literals → FieldTypes → Bool
  are_miscounted no_literals fs = false
  are_miscounted (literal l ls) no_fields = false
  are_miscounted (literal l ls) (field name t fs) = is_miscounted l t || are_miscounted ls fs

-- whether a leaf fails a test: that its type is an integer's, that this type is within the limits, that it is in range
abbrev pub leaf_fails : LeafTest → ℤ → HwType → Bool
leaf_fails Kind z t = not (is_int t)
leaf_fails Width z t = is_outside t
leaf_fails Range z t = is_outside_type z t

abbrev mutual
  -- whether one of the leaves does
  pub has_failing_leaf : LeafTest → Literal → Bool
  has_failing_leaf test (leaf z t) = leaf_fails test z t
  has_failing_leaf test (parts ls) = any_failing_leaf test ls

  -- whether one of the leaves of constants does
  pub any_failing_leaf : LeafTest → Literals → Bool
  any_failing_leaf test no_literals = false
  any_failing_leaf test (literal l ls) = has_failing_leaf test l || any_failing_leaf test ls
