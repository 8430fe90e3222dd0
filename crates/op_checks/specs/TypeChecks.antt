-- Tests of one type: the limits on widths and leaves, names of fields, clocks (CIRCT: HW and Seq dialects: types).
use Rattle.std.specs.Prelude.{Bool, true, false, ◌||◌, ◌==◌, nat_lt, length}
use Rattle.hw_model.specs.Types.{Name, HwType, FieldTypes, width, leaves}
use Rattle.hw_model.specs.Types.HwType.{int, clock, array, struct}
use Rattle.hw_model.specs.Types.FieldTypes.{no_fields, field}
use Rattle.hw_model.specs.Design.{same_name}

-- whether there are no fields
abbrev pub is_without_fields : FieldTypes → Bool
is_without_fields no_fields = true
is_without_fields (field name t fs) = false

abbrev mutual
  -- whether the type, or a type within it, is an integer of other than 1 to 128 bits, an array of length 0 or a struct
  -- without fields
  pub has_bad_part : HwType → Bool
  has_bad_part (int w) = (w == 0) || nat_lt 128 w
  has_bad_part clock = false
  has_bad_part (array n t) = (n == 0) || has_bad_part t
  has_bad_part (struct fs) = is_without_fields fs || has_bad_part_among fs

  -- whether one of the fields is or has one
  pub has_bad_part_among : FieldTypes → Bool
  has_bad_part_among no_fields = false
  has_bad_part_among (field name t fs) = has_bad_part t || has_bad_part_among fs

-- whether a type is outside the limits: a part is, or the whole has more than 4,096 bits or more than 1,024 leaves. No
-- part of a type within them has more than the whole.
unfoldable pub is_outside : HwType → Bool
is_outside t = has_bad_part t || (nat_lt 4096 (width t) || nat_lt 1024 (length (leaves t)))

-- whether a field has the name
abbrev pub has_name : Name → FieldTypes → Bool
has_name name no_fields = false
has_name name (field f t fs) = same_name f name || has_name name fs

-- whether two fields have one name
abbrev pub has_name_twice : FieldTypes → Bool
has_name_twice no_fields = false
has_name_twice (field f t fs) = has_name f fs || has_name_twice fs

abbrev mutual
  -- whether a struct, the type itself or one within it, has a name of a field twice
  pub has_bad_field : HwType → Bool
  has_bad_field (int w) = false
  has_bad_field clock = false
  has_bad_field (array n t) = has_bad_field t
  has_bad_field (struct fs) = has_name_twice fs || has_bad_field_among fs

  -- whether one of the fields has
  pub has_bad_field_among : FieldTypes → Bool
  has_bad_field_among no_fields = false
  has_bad_field_among (field f t fs) = has_bad_field t || has_bad_field_among fs

-- whether a type is the clock's
abbrev pub is_clock : HwType → Bool
is_clock clock = true
is_clock _ = false

abbrev mutual
  -- whether the type, or a type within it, is the clock's
  pub has_clock : HwType → Bool
  has_clock (int w) = false
  has_clock clock = true
  has_clock (array n t) = has_clock t
  has_clock (struct fs) = has_clock_among fs

  -- whether one of the fields is or has one
  pub has_clock_among : FieldTypes → Bool
  has_clock_among no_fields = false
  has_clock_among (field name t fs) = has_clock t || has_clock_among fs

-- whether an aggregate has a clock within it
abbrev pub has_clock_part : HwType → Bool
has_clock_part (array n t) = has_clock t
has_clock_part (struct fs) = has_clock_among fs
has_clock_part _ = false

-- whether a type is an integer's
abbrev pub is_int : HwType → Bool
is_int (int w) = true
is_int _ = false
