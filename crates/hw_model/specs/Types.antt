-- The types of values (CIRCT, HW dialect: types), their widths and their leaves.
use Rattle.std.specs.Prelude.{ℕ, zero, suc, ◌+◌, ◌*◌, List, [], ◌∷◌, ◌++◌}

-- a text: its bytes
abbrev pub Name : Type 0
Name = List ℕ

mutual
  -- integers of a width, clocks, arrays of a length, structs
  pub data HwType : Type 0 where
    int : ℕ → HwType
    clock : HwType
    array : ℕ → HwType → HwType
    struct : FieldTypes → HwType

  -- the fields of a struct, each with its name
  pub data FieldTypes : Type 0 where
    no_fields : FieldTypes
    field : Name → HwType → FieldTypes → FieldTypes

abbrev mutual
  -- the number of bits of a value
  pub width : HwType → ℕ
  width (int w) = w
  width clock = 1
  width (array n t) = n * width t
  width (struct fs) = width_of_fields fs

  pub width_of_fields : FieldTypes → ℕ
  width_of_fields no_fields = 0
  width_of_fields (field name t fs) = width t + width_of_fields fs

-- a list n times over
abbrev pub list_copies : {A : Type 0} → ℕ → List A → List A
list_copies zero xs = []
list_copies (suc n) xs = xs ++ list_copies n xs

abbrev mutual
  -- the parts of a type that have no parts: an array's from the highest index to 0, a struct's from its first field
  pub leaves : HwType → List HwType
  leaves (int w) = int w ∷ []
  leaves clock = clock ∷ []
  leaves (array n t) = list_copies n (leaves t)
  leaves (struct fs) = leaves_of_fields fs

  pub leaves_of_fields : FieldTypes → List HwType
  leaves_of_fields no_fields = []
  leaves_of_fields (field name t fs) = leaves t ++ leaves_of_fields fs
