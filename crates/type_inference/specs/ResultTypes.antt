-- The types of an operation's results, by its kind and the types that it writes (CIRCT: operation references of HW, Comb and Seq).
use Rattle.std.specs.Prelude.{ℕ, ◌+◌, ◌-◌, ◌^◌, min, cond, List, [], ◌∷◌, map, drop, length, Option, Some, None}
use Rattle.hw_model.specs.Types.{Name, HwType}
use Rattle.hw_model.specs.Types.HwType.{int, array, struct}
use Rattle.hw_model.specs.Kinds.{Kind, ArrayOp, StructOp}
use Rattle.hw_model.specs.Kinds.ArrayOp.{array_create, array_concat, array_get, array_slice, array_inject}
use Rattle.hw_model.specs.Kinds.StructOp.{struct_create, struct_extract, struct_inject, struct_explode}
use Rattle.hw_model.specs.Kinds.Kind.{variadic, sub, division, shift, icmp, parity, extract, concat, replicate, mux, constant, aggregate_constant, on_array, on_struct, bitcast, wire, instance, output, register, async_firreg}
use Rattle.hw_model.specs.SameType.{same_type}
use Rattle.hw_model.specs.Sound.{field_list, field_type}

-- the first of the types, the second
abbrev pub first_type : List HwType → Option HwType
first_type [] = None
first_type (t ∷ ts) = Some t

abbrev pub second_type : List HwType → Option HwType
second_type [] = None
second_type (t ∷ ts) = first_type ts

-- the joined integers of some widths: a type that is no integer settles nothing
abbrev pub with_width : HwType → Option ℕ → Option ℕ
with_width (int w) (Some n) = Some (w + n)
with_width _ _ = None

abbrev pub joined_width : List HwType → Option ℕ
joined_width [] = Some 0
joined_width (t ∷ ts) = with_width t (joined_width ts)

-- a width or a length as a type keeps it: the greatest that it keeps is 2^32 - 1, and stands for all above it
abbrev pub kept_size : ℕ → ℕ
kept_size n = min n (2 ^ 32 - 1)

abbrev pub as_int : Option ℕ → Option HwType
as_int None = None
as_int (Some w) = Some (int (kept_size w))

-- an array of so many elements
abbrev pub as_array : ℕ → Option HwType → Option HwType
as_array n None = None
as_array n (Some t) = Some (array (kept_size n) t)

-- the element's type of an array
abbrev pub element_of : Option HwType → Option HwType
element_of (Some (array n t)) = Some t
element_of _ = None

-- how many elements of a type an array has: what is no array of such elements settles nothing
abbrev pub elements_in : Option HwType → HwType → Option ℕ
elements_in (Some e) (array n t) = cond (same_type t e) (Some n) None
elements_in _ _ = None

abbrev pub sum_of : Option ℕ → Option ℕ → Option ℕ
sum_of (Some n) (Some m) = Some (n + m)
sum_of _ _ = None

-- how many elements of a type arrays have together
abbrev pub length_joined : Option HwType → List HwType → Option ℕ
length_joined e [] = Some 0
length_joined e (t ∷ ts) = sum_of (elements_in e t) (length_joined e ts)

-- how many elements the arrays have together, all of the first one's type of elements
unfoldable pub joined_length : List HwType → Option ℕ
joined_length ts = length_joined (element_of (first_type ts)) ts

abbrev pub array_of : Option ℕ → Option HwType → Option HwType
array_of (Some n) (Some t) = Some (array (kept_size n) t)
array_of _ _ = None

-- the type of a field of a struct
abbrev pub field_of : Option HwType → Name → Option HwType
field_of (Some (struct fs)) name = field_type fs name
field_of _ name = None

-- the types of a struct's fields; of what is no struct none
abbrev pub fields_of : Option HwType → List (Option HwType)
fields_of (Some (struct fs)) = map (λ (t : HwType). Some t) (field_list fs)
fields_of _ = []

-- the type of the result of an operation on arrays, on structs: None where the operation does not settle it
abbrev pub array_result : ArrayOp → List HwType → ℕ → Option HwType
array_result array_create ts n = as_array n (first_type ts)
array_result array_concat ts n = array_of (joined_length ts) (element_of (first_type ts))
array_result array_get ts n = element_of (first_type ts)
array_result array_slice ts n = second_type ts
array_result array_inject ts n = first_type ts

abbrev pub struct_result : StructOp → List HwType → Option HwType
struct_result struct_create ts = first_type ts
struct_result (struct_extract name) ts = field_of (first_type ts) name
struct_result (struct_inject name) ts = first_type ts
struct_result struct_explode ts = None

-- the type of the result of an operation that has one: None where the operation does not settle it
unfoldable pub result_type : Kind → List HwType → ℕ → Option HwType
result_type (variadic v) ts n = first_type ts
result_type sub ts n = first_type ts
result_type (division d) ts n = first_type ts
result_type (shift s) ts n = first_type ts
result_type (icmp p) ts n = Some (int 1)
result_type parity ts n = Some (int 1)
result_type (extract low) ts n = second_type ts
result_type concat ts n = as_int (joined_width ts)
result_type replicate ts n = second_type ts
result_type mux ts n = first_type ts
result_type (constant z) ts n = first_type ts
result_type (aggregate_constant ls) ts n = first_type ts
result_type (on_array a) ts n = array_result a ts n
result_type (on_struct s) ts n = struct_result s ts
result_type bitcast ts n = second_type ts
result_type wire ts n = first_type ts
result_type (instance i) ts n = None
result_type output ts n = None
result_type (register f r) ts n = first_type ts
result_type async_firreg ts n = first_type ts

-- the types of an operation's results, one for each
unfoldable pub result_types : Kind → List HwType → ℕ → List (Option HwType)
result_types output ts n = []
result_types (on_struct struct_explode) ts n = fields_of (first_type ts)
result_types (instance i) ts n = map (λ (t : HwType). Some t) (drop (length i.inputs) ts)
result_types kind ts n = result_type kind ts n ∷ []

-- how many fields a struct has; what is no struct has none
abbrev pub field_count : Option HwType → ℕ
field_count (Some (struct fs)) = length (field_list fs)
field_count _ = 0

-- how many results an operation has
unfoldable pub result_count : Kind → List HwType → ℕ
result_count output ts = 0
result_count (on_struct struct_explode) ts = field_count (first_type ts)
result_count (instance i) ts = length ts - length i.inputs
result_count kind ts = 1
