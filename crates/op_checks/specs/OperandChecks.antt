-- The operands and results of an operation against what its kind and the types that it writes ask for
-- (CIRCT: operation references of the HW, Comb and Seq dialects).
use Rattle.std.specs.Prelude.{ℕ, ◌+◌, Bool, true, false, cond, not, ◌||◌, List, length, Option, Some, None}
use Rattle.std.specs.List.{list_any}
use Rattle.hw_model.specs.Types.{HwType}
use Rattle.hw_model.specs.Types.HwType.{int, clock}
use Rattle.hw_model.specs.Kinds.{Kind, Reset, Literals, ArrayOp, StructOp}
use Rattle.hw_model.specs.Kinds.Reset.{no_reset, sync_reset}
use Rattle.hw_model.specs.Kinds.Literal.{parts}
use Rattle.hw_model.specs.Kinds.ArrayOp.{array_create, array_concat, array_get, array_slice, array_inject}
use Rattle.hw_model.specs.Kinds.StructOp.{struct_create, struct_extract, struct_inject, struct_explode}
use Rattle.hw_model.specs.Kinds.Kind.{concat, mux, aggregate_constant, on_array, on_struct, bitcast, wire, instance, output, register, async_firreg}
use Rattle.hw_model.specs.Design.{takes_enable}
use Rattle.type_inference.specs.ResultTypes.{first_type, second_type, element_of, field_of, fields_of, result_types}
use Rattle.op_checks.specs.TypeChecks.{is_int}
use Rattle.op_checks.specs.TypeLists.{known_types, is_no_int, is_no_array, is_no_struct, differs, any_differs, differ, differ_in_two, differ_in_three, settled_at}
use Rattle.op_checks.specs.LiteralChecks.{literal_differs, any_failing_leaf}
use Rattle.op_checks.specs.declared.literal_checks.LeafTest.TheVariants as leaf_test

-- whether a type is there and is no array of the element's type
abbrev pub is_no_array_of : Option HwType → HwType → Bool
is_no_array_of e t = is_no_array (Some t) || differs (element_of (Some t)) e

-- whether one of the types is no array, or an array of other elements than the first
abbrev pub has_other_array : List HwType → Bool
has_other_array ts = list_any (is_no_array_of (element_of (first_type ts))) ts

-- whether a written type of an operation on arrays is none that the form takes
abbrev pub has_other_array_form : ArrayOp → List HwType → Bool
has_other_array_form array_create ts = false
has_other_array_form array_concat ts = has_other_array ts
has_other_array_form array_get ts = is_no_array (first_type ts) || is_no_int (second_type ts)
has_other_array_form array_slice ts = has_other_array ts
has_other_array_form array_inject ts = is_no_array (first_type ts) || is_no_int (second_type ts)

-- whether a written type is of a kind that the form does not take: integers for comb and for constants, arrays and
-- structs where the form says so
unfoldable pub has_other_form : Kind → List HwType → Bool
has_other_form mux ts = false
has_other_form (aggregate_constant ls) ts = any_failing_leaf leaf_test.Kind ls
has_other_form (on_array a) ts = has_other_array_form a ts
has_other_form (on_struct s) ts = is_no_struct (first_type ts)
has_other_form bitcast ts = false
has_other_form wire ts = false
has_other_form (instance i) ts = false
has_other_form output ts = false
has_other_form (register f r) ts = false
has_other_form async_firreg ts = false
has_other_form kind ts = list_any (λ (t : HwType). not (is_int t)) ts

-- whether the enable of a register, where it has one, is no i1
abbrev pub enable_differs : Bool → List (Option HwType) → Bool
enable_differs false xs = false
enable_differs true xs = differs (settled_at xs 2) (Some (int 1))

-- whether its reset, at a position, is no i1, or the value that it then takes has another type
abbrev pub reset_differs : Reset → Option HwType → ℕ → List (Option HwType) → Bool
reset_differs no_reset t at xs = false
reset_differs sync_reset t at xs = differs (settled_at xs at) (Some (int 1)) || differs (settled_at xs (at + 1)) t

-- whether an operand of a register of a type has another type than its data, its clock, its enable and its reset have
abbrev pub register_differs : Bool → Reset → Option HwType → List (Option HwType) → Bool
register_differs has_enable r t xs = differ_in_two xs t (Some clock)
    || (enable_differs has_enable xs || reset_differs r t (cond has_enable 3 2) xs)

-- whether a constant is no constant of the type
abbrev pub parts_differ : Literals → Option HwType → Bool
parts_differ ls None = false
parts_differ ls (Some t) = literal_differs (parts ls) t

-- whether an operand's type is not the one that an operation on arrays asks for, where it is settled
abbrev pub has_other_array_operand : ArrayOp → List HwType → List (Option HwType) → Bool
has_other_array_operand array_create ts xs = any_differs xs (first_type ts)
has_other_array_operand array_concat ts xs = differ xs (known_types ts)
has_other_array_operand array_get ts xs = differ xs (known_types ts)
has_other_array_operand array_slice ts xs = differs (settled_at xs 0) (first_type ts) || is_no_int (settled_at xs 1)
has_other_array_operand array_inject ts xs = differ_in_three xs (first_type ts) (second_type ts) (element_of (first_type ts))

-- that an operation on structs asks for
abbrev pub has_other_struct_operand : StructOp → List HwType → List (Option HwType) → Bool
has_other_struct_operand struct_create ts xs = differ xs (fields_of (first_type ts))
has_other_struct_operand (struct_extract name) ts xs = any_differs xs (first_type ts)
has_other_struct_operand (struct_inject name) ts xs = differ_in_two xs (first_type ts) (field_of (first_type ts) name)
has_other_struct_operand struct_explode ts xs = any_differs xs (first_type ts)

-- whether an operand's type is not the written or required one, where it is settled
unfoldable pub has_other_operand : Kind → List HwType → List (Option HwType) → Bool
has_other_operand concat ts xs = differ xs (known_types ts)
has_other_operand mux ts xs = differ_in_three xs (Some (int 1)) (first_type ts) (first_type ts)
has_other_operand (aggregate_constant ls) ts xs = parts_differ ls (first_type ts)
has_other_operand (on_array a) ts xs = has_other_array_operand a ts xs
has_other_operand (on_struct s) ts xs = has_other_struct_operand s ts xs
has_other_operand (instance i) ts xs = differ xs (known_types ts)
has_other_operand output ts xs = differ xs (known_types ts)
has_other_operand (register f r) ts xs = register_differs (takes_enable f) r (first_type ts) xs
has_other_operand async_firreg ts xs = register_differs false sync_reset (first_type ts) xs
has_other_operand kind ts xs = any_differs xs (first_type ts)

-- whether a result has another type than the operation gives it, where it gives one: never in a text that is read
unfoldable pub has_other_result : Kind → List HwType → List HwType → ℕ → Bool
has_other_result kind ts rs n = differ (known_types rs) (result_types kind ts n)

-- whether types do not match
unfoldable pub has_mismatch : Kind → List HwType → List HwType → List (Option HwType) → Bool
has_mismatch kind ts rs xs = has_other_form kind ts || (has_other_operand kind ts xs || has_other_result kind ts rs (length xs))
