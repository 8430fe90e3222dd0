-- Folds by which a part of what was made of parts is that part (CIRCT, Comb and HW dialects: folds of their operations).
use Rattle.std.specs.Prelude.{ℕ, zero, cond, ◌&&◌, nat_eq, map, length, List, [], ◌∷◌, Option, Some, None, slice_get, option_and_then}
use Rattle.wiring.specs.Lists.{total}
use Rattle.bits_core.specs.Word.{Word, number}
use Rattle.hw_model.specs.Types.{Name, HwType, FieldTypes, width}
use Rattle.hw_model.specs.Types.FieldTypes.{no_fields, field}
use Rattle.hw_model.specs.Kinds.{Kind}
use Rattle.hw_model.specs.Kinds.ArrayOp.{array_create, array_get}
use Rattle.hw_model.specs.Kinds.StructOp.{struct_create, struct_extract}
use Rattle.hw_model.specs.Kinds.Kind.{extract, concat, on_array, on_struct}
use Rattle.hw_model.specs.Design.{Ref, Op, same_name}
use Rattle.hw_model.specs.Design.Ref.{result}
use Rattle.hw_model.specs.Value.{fields, nth_type}
use Rattle.fold_laws.specs.Constants.{constant_at}
use Rattle.fold_laws.specs.Edits.{FoldPattern}
use Rattle.fold_laws.specs.Standing.{Stand, by_stand}

-- the operation of which a value is the first result
abbrev pub maker : List Op → Ref → Option Op
maker os (result j zero) = slice_get os j
maker os _ = None

-- the operand that is the field of a name
abbrev pub field_operand : FieldTypes → Name → List Ref → Option Ref
field_operand no_fields name rs = None
field_operand (field f t fs) name [] = None
field_operand (field f t fs) name (x ∷ xs) = cond (same_name f name) (Some x) (field_operand fs name xs)

-- that of an hw.struct_create
abbrev pub created_field : FieldTypes → Name → Kind → List Ref → Option Ref
created_field fs name (on_struct struct_create) rs = field_operand fs name rs
created_field fs name _ rs = None

-- the field of a name of the value that is the only operand, where it was made of fields
abbrev pub field_of_made : List Op → FieldTypes → Name → List Ref → Option Ref
field_of_made os fs name (s ∷ []) = option_and_then (λ (c : Op). created_field fs name c.kind c.operands) (maker os s)
field_of_made os fs name _ = None

-- an operand of hw.struct_create stands for the field that it is
abbrev pub struct_part : Stand
struct_part os (on_struct (struct_extract name)) ts rs = field_of_made os (fields (nth_type ts 0)) name rs
struct_part os _ ts rs = None

-- struct_extract of struct_create becomes the operand
abbrev pub fold_struct_part : FoldPattern
fold_struct_part = by_stand struct_part

-- ---- bits of what was joined

-- the operand that w bits from one on are, of joined operands of these types
abbrev pub covered_operand : ℕ → ℕ → List HwType → List Ref → Option Ref
covered_operand low w [] rs = None
covered_operand low w (u ∷ us) [] = None
covered_operand low w (u ∷ us) (x ∷ xs) = cond (nat_eq low (total (map width us)) && nat_eq w (width u)) (Some x) (covered_operand low w us xs)

-- that of a comb.concat
abbrev pub joined_operand : ℕ → ℕ → Kind → List HwType → List Ref → Option Ref
joined_operand low w concat us rs = covered_operand low w us rs
joined_operand low w _ us rs = None

-- the operand that these bits are of the value that is the only operand, where it was joined
abbrev pub covered_of_made : List Op → ℕ → ℕ → List Ref → Option Ref
covered_of_made os low w (s ∷ []) = option_and_then (λ (c : Op). joined_operand low w c.kind c.types c.operands) (maker os s)
covered_of_made os low w _ = None

-- an operand of comb.concat stands for the bits that it is
abbrev pub extract_part : Stand
extract_part os (extract low) ts rs = covered_of_made os low (width (nth_type ts 1)) rs
extract_part os _ ts rs = None

-- an extract that covers exactly one operand of a concat becomes that operand
abbrev pub fold_extract_part : FoldPattern
fold_extract_part = by_stand extract_part

-- ---- elements of an array that was made of elements

-- the element at an index, of operands of which the first has the highest one
abbrev pub element_operand : ℕ → List Ref → Option Ref
element_operand n [] = None
element_operand n (x ∷ xs) = cond (nat_eq n (length xs)) (Some x) (element_operand n xs)

-- that of an hw.array_create
abbrev pub created_element : ℕ → Kind → List Ref → Option Ref
created_element n (on_array array_create) rs = element_operand n rs
created_element n _ rs = None

-- the element of an array at an index that is a constant, where the array was made of elements
abbrev pub element_of_made : List Op → List Ref → Option Ref
element_of_made os (a ∷ i ∷ []) = option_and_then (λ (w : Word). option_and_then (λ (c : Op). created_element (number w) c.kind c.operands) (maker os a)) (constant_at os i)
element_of_made os _ = None

-- an operand of hw.array_create stands for the element that it is
abbrev pub array_part : Stand
array_part os (on_array array_get) ts rs = element_of_made os rs
array_part os _ ts rs = None

-- array_get of array_create at a constant within the array becomes the operand
abbrev pub fold_array_part : FoldPattern
fold_array_part = by_stand array_part
