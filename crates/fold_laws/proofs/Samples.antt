-- Each pattern computed on a small body, and where it does not match.
use Rattle.std.proofs.Common.{◌≡◌, ℕ, pos, List, [], ◌∷◌, Option, Some, None, refl}
use Rattle.std.specs.Prelude.{codes}
use Rattle.hw_model.specs.Types.{HwType}
use Rattle.hw_model.specs.Types.HwType.{int, array, struct}
use Rattle.hw_model.specs.Types.FieldTypes.{no_fields, field}
use Rattle.hw_model.specs.Kinds.{Kind}
use Rattle.hw_model.specs.Kinds.Predicate.{eq, slt, sle}
use Rattle.hw_model.specs.Kinds.Variadic.{add, mul, and, or, xor}
use Rattle.hw_model.specs.Kinds.Division.{divu, modu, divs, mods}
use Rattle.hw_model.specs.Kinds.Shift.{shl, shrs}
use Rattle.hw_model.specs.Kinds.ArrayOp.{array_create, array_get}
use Rattle.hw_model.specs.Kinds.StructOp.{struct_create, struct_extract}
use Rattle.hw_model.specs.Kinds.Kind.{variadic, sub, division, shift, icmp, extract, concat, replicate, mux, constant, on_array, on_struct, bitcast, wire, output}
use Rattle.hw_model.specs.Design.{Ref, Op, no_location}
use Rattle.hw_model.specs.Design.Ref.{port, result}
use Rattle.hw_model.proofs.Samples.{operation, module_of}
use Rattle.fold_laws.specs.Edits.{FoldPattern, fold_by}
use Rattle.fold_laws.specs.Evaluated.{fold_evaluated}
use Rattle.fold_laws.specs.Fewer.{fold_add_zero, fold_or_zero, fold_xor_zero, fold_and_ones, fold_mul_one, fold_repeated, fold_xor_pair}
use Rattle.fold_laws.specs.Fold.{measure}
use Rattle.fold_laws.specs.Numbers.{number_op, fold_sub_self, fold_xor_self, fold_shift_out, fold_mod_one, fold_icmp_self}
use Rattle.fold_laws.specs.Parts.{fold_struct_part, fold_extract_part, fold_array_part}
use Rattle.fold_laws.specs.Standing.{fold_single_operand, fold_and_zero, fold_or_ones, fold_mul_zero, fold_sub_zero, fold_shift_zero, fold_div_one, fold_mux_constant, fold_mux_same, fold_mux_bool}
use Rattle.fold_laws.specs.Standing.{fold_full_extract, fold_trivial_concat, fold_trivial_replicate, fold_trivial_bitcast}
use Rattle.fold_laws.specs.Unused.{fold_unused}

-- ---- bodies of two constants, an operation at position 2 and an output

abbrev pub bytes : List HwType
bytes = int 8 ∷ []

abbrev pub byte_of : ℕ → Op
byte_of n = operation (constant (pos n)) [] bytes bytes

abbrev pub bit_of : ℕ → Op
bit_of n = operation (constant (pos n)) [] (int 1 ∷ []) (int 1 ∷ [])

abbrev pub output_of : Ref → Op
output_of r = operation output (r ∷ []) bytes []

abbrev pub body_with : Op → Op → Op → Ref → List Op
body_with c e o r = c ∷ e ∷ o ∷ output_of r ∷ []

-- what a pattern makes of the operation at position 2
abbrev pub pattern_of : FoldPattern → Op → Op → Op → Option (List Op)
pattern_of pattern c e o = fold_by pattern (module_of (codes "M") [] (body_with c e o (result 2 0))) 2

-- what is left where a value stands for its result
abbrev left_of : Op → Op → Ref → Option (List Op)
left_of c e r = Some (c ∷ e ∷ output_of r ∷ [])

abbrev pub a : Ref
a = port 0

abbrev pub b : Ref
b = port 1

-- the results of the two constants
abbrev pub k : Ref
k = result 0 0

abbrev pub m : Ref
m = result 1 0

-- ---- the measure: 1 for each constant, 8 for two operands, 5 for the output

measure_of_body : measure (body_with (byte_of 0) (byte_of 1) (operation sub (a ∷ k ∷ []) bytes bytes) (result 2 0)) ≡ 15
measure_of_body = refl

-- ---- an operation without uses

unused_gone : fold_by fold_unused (module_of (codes "M") [] (body_with (byte_of 0) (byte_of 1) (operation sub (a ∷ k ∷ []) bytes bytes) b)) 2
    ≡ Some (byte_of 0 ∷ byte_of 1 ∷ output_of b ∷ [])
unused_gone = refl

used_stays : pattern_of fold_unused (byte_of 0) (byte_of 1) (operation sub (a ∷ k ∷ []) bytes bytes) ≡ None
used_stays = refl

unused_wire_stays : fold_by fold_unused (module_of (codes "M") [] (body_with (byte_of 0) (byte_of 1) (operation wire (a ∷ []) bytes bytes) b)) 2 ≡ None
unused_wire_stays = refl

-- ---- one operand, and operands that decide

single : pattern_of fold_single_operand (byte_of 0) (byte_of 1) (operation (variadic mul) (a ∷ []) bytes bytes) ≡ left_of (byte_of 0) (byte_of 1) a
single = refl

two_operands : pattern_of fold_single_operand (byte_of 0) (byte_of 1) (operation (variadic mul) (a ∷ b ∷ []) bytes bytes) ≡ None
two_operands = refl

and_zero : pattern_of fold_and_zero (byte_of 0) (byte_of 1) (operation (variadic and) (a ∷ k ∷ []) bytes bytes) ≡ left_of (byte_of 0) (byte_of 1) k
and_zero = refl

and_one : pattern_of fold_and_zero (byte_of 0) (byte_of 1) (operation (variadic and) (a ∷ m ∷ []) bytes bytes) ≡ None
and_one = refl

or_ones : pattern_of fold_or_ones (byte_of 255) (byte_of 1) (operation (variadic or) (a ∷ k ∷ b ∷ []) bytes bytes) ≡ left_of (byte_of 255) (byte_of 1) k
or_ones = refl

or_fewer_ones : pattern_of fold_or_ones (byte_of 127) (byte_of 1) (operation (variadic or) (a ∷ k ∷ b ∷ []) bytes bytes) ≡ None
or_fewer_ones = refl

mul_zero : pattern_of fold_mul_zero (byte_of 0) (byte_of 1) (operation (variadic mul) (k ∷ b ∷ []) bytes bytes) ≡ left_of (byte_of 0) (byte_of 1) k
mul_zero = refl

add_zero_is_no_such : pattern_of fold_mul_zero (byte_of 0) (byte_of 1) (operation (variadic add) (k ∷ b ∷ []) bytes bytes) ≡ None
add_zero_is_no_such = refl

-- ---- a neutral second operand

sub_zero : pattern_of fold_sub_zero (byte_of 0) (byte_of 1) (operation sub (a ∷ k ∷ []) bytes bytes) ≡ left_of (byte_of 0) (byte_of 1) a
sub_zero = refl

sub_from_zero : pattern_of fold_sub_zero (byte_of 0) (byte_of 1) (operation sub (k ∷ a ∷ []) bytes bytes) ≡ None
sub_from_zero = refl

shift_zero : pattern_of fold_shift_zero (byte_of 0) (byte_of 1) (operation (shift shrs) (a ∷ k ∷ []) bytes bytes) ≡ left_of (byte_of 0) (byte_of 1) a
shift_zero = refl

shift_one : pattern_of fold_shift_zero (byte_of 0) (byte_of 1) (operation (shift shl) (a ∷ m ∷ []) bytes bytes) ≡ None
shift_one = refl

div_one : pattern_of fold_div_one (byte_of 0) (byte_of 1) (operation (division divs) (a ∷ m ∷ []) bytes bytes) ≡ left_of (byte_of 0) (byte_of 1) a
div_one = refl

div_minus_one : pattern_of fold_div_one (byte_of 255) (byte_of 1) (operation (division divs) (a ∷ k ∷ []) bytes bytes) ≡ None
div_minus_one = refl

mod_is_no_quotient : pattern_of fold_div_one (byte_of 0) (byte_of 1) (operation (division modu) (a ∷ m ∷ []) bytes bytes) ≡ None
mod_is_no_quotient = refl

-- ---- choices

mux_true : pattern_of fold_mux_constant (bit_of 1) (bit_of 0) (operation mux (k ∷ a ∷ b ∷ []) bytes bytes) ≡ left_of (bit_of 1) (bit_of 0) a
mux_true = refl

mux_false : pattern_of fold_mux_constant (bit_of 1) (bit_of 0) (operation mux (m ∷ a ∷ b ∷ []) bytes bytes) ≡ left_of (bit_of 1) (bit_of 0) b
mux_false = refl

mux_unknown : pattern_of fold_mux_constant (bit_of 1) (bit_of 0) (operation mux (a ∷ k ∷ m ∷ []) bytes bytes) ≡ None
mux_unknown = refl

mux_same : pattern_of fold_mux_same (bit_of 1) (bit_of 0) (operation mux (a ∷ b ∷ b ∷ []) bytes bytes) ≡ left_of (bit_of 1) (bit_of 0) b
mux_same = refl

-- equal constants are two values
mux_equal_constants : pattern_of fold_mux_same (byte_of 5) (byte_of 5) (operation mux (a ∷ k ∷ m ∷ []) bytes bytes) ≡ None
mux_equal_constants = refl

mux_bool : pattern_of fold_mux_bool (bit_of 1) (bit_of 0) (operation mux (a ∷ k ∷ m ∷ []) (int 1 ∷ []) (int 1 ∷ [])) ≡ left_of (bit_of 1) (bit_of 0) a
mux_bool = refl

mux_turned : pattern_of fold_mux_bool (bit_of 1) (bit_of 0) (operation mux (a ∷ m ∷ k ∷ []) (int 1 ∷ []) (int 1 ∷ [])) ≡ None
mux_turned = refl

mux_wide : pattern_of fold_mux_bool (byte_of 1) (byte_of 0) (operation mux (a ∷ k ∷ m ∷ []) bytes bytes) ≡ None
mux_wide = refl

-- ---- whole values

whole : pattern_of fold_full_extract (byte_of 0) (byte_of 1) (operation (extract 0) (a ∷ []) (int 8 ∷ int 8 ∷ []) bytes) ≡ left_of (byte_of 0) (byte_of 1) a
whole = refl

part : pattern_of fold_full_extract (byte_of 0) (byte_of 1) (operation (extract 0) (a ∷ []) (int 9 ∷ int 8 ∷ []) bytes) ≡ None
part = refl

joined_alone : pattern_of fold_trivial_concat (byte_of 0) (byte_of 1) (operation concat (a ∷ []) bytes bytes) ≡ left_of (byte_of 0) (byte_of 1) a
joined_alone = refl

joined_two : pattern_of fold_trivial_concat (byte_of 0) (byte_of 1) (operation concat (a ∷ b ∷ []) (int 4 ∷ int 4 ∷ []) bytes) ≡ None
joined_two = refl

copied_once : pattern_of fold_trivial_replicate (byte_of 0) (byte_of 1) (operation replicate (a ∷ []) (int 8 ∷ int 8 ∷ []) bytes) ≡ left_of (byte_of 0) (byte_of 1) a
copied_once = refl

copied_twice : pattern_of fold_trivial_replicate (byte_of 0) (byte_of 1) (operation replicate (a ∷ []) (int 4 ∷ int 8 ∷ []) bytes) ≡ None
copied_twice = refl

cast_to_itself : pattern_of fold_trivial_bitcast (byte_of 0) (byte_of 1) (operation bitcast (a ∷ []) (int 8 ∷ int 8 ∷ []) bytes) ≡ left_of (byte_of 0) (byte_of 1) a
cast_to_itself = refl

cast_to_array : pattern_of fold_trivial_bitcast (byte_of 0) (byte_of 1) (operation bitcast (a ∷ []) (int 8 ∷ array 2 (int 4) ∷ []) (array 2 (int 4) ∷ [])) ≡ None
cast_to_array = refl

-- ---- constants in the place of operations

-- what is left where a number of a type stands in the place of the operation
abbrev number_left : Op → Op → ℕ → HwType → Option (List Op)
number_left c e n t = Some (c ∷ e ∷ number_op n t no_location ∷ output_of (result 2 0) ∷ [])

sub_self : pattern_of fold_sub_self (byte_of 0) (byte_of 1) (operation sub (a ∷ a ∷ []) bytes bytes) ≡ number_left (byte_of 0) (byte_of 1) 0 (int 8)
sub_self = refl

sub_other : pattern_of fold_sub_self (byte_of 5) (byte_of 5) (operation sub (k ∷ m ∷ []) bytes bytes) ≡ None
sub_other = refl

shift_out : pattern_of fold_shift_out (byte_of 8) (byte_of 7) (operation (shift shl) (a ∷ k ∷ []) bytes bytes) ≡ number_left (byte_of 8) (byte_of 7) 0 (int 8)
shift_out = refl

shift_not_out : pattern_of fold_shift_out (byte_of 8) (byte_of 7) (operation (shift shl) (a ∷ m ∷ []) bytes bytes) ≡ None
shift_not_out = refl

sign_stays : pattern_of fold_shift_out (byte_of 8) (byte_of 7) (operation (shift shrs) (a ∷ k ∷ []) bytes bytes) ≡ None
sign_stays = refl

mod_one : pattern_of fold_mod_one (byte_of 0) (byte_of 1) (operation (division mods) (a ∷ m ∷ []) bytes bytes) ≡ number_left (byte_of 0) (byte_of 1) 0 (int 8)
mod_one = refl

mod_two : pattern_of fold_mod_one (byte_of 2) (byte_of 1) (operation (division mods) (a ∷ k ∷ []) bytes bytes) ≡ None
mod_two = refl

less_or_equal : pattern_of fold_icmp_self (byte_of 0) (byte_of 1) (operation (icmp sle) (a ∷ a ∷ []) bytes (int 1 ∷ [])) ≡ number_left (byte_of 0) (byte_of 1) 1 (int 1)
less_or_equal = refl

less : pattern_of fold_icmp_self (byte_of 0) (byte_of 1) (operation (icmp slt) (a ∷ a ∷ []) bytes (int 1 ∷ [])) ≡ number_left (byte_of 0) (byte_of 1) 0 (int 1)
less = refl

compared_with_other : pattern_of fold_icmp_self (byte_of 0) (byte_of 1) (operation (icmp eq) (a ∷ b ∷ []) bytes (int 1 ∷ [])) ≡ None
compared_with_other = refl

-- ---- operations of constants: -7 / 2 is -3, 249 / 2 is 124

quotient : pattern_of fold_evaluated (byte_of 0xf9) (byte_of 2) (operation (division divs) (k ∷ m ∷ []) bytes bytes) ≡ number_left (byte_of 0xf9) (byte_of 2) 0xfd (int 8)
quotient = refl

unsigned_quotient : pattern_of fold_evaluated (byte_of 0xf9) (byte_of 2) (operation (division divu) (k ∷ m ∷ []) bytes bytes) ≡ number_left (byte_of 0xf9) (byte_of 2) 0x7c (int 8)
unsigned_quotient = refl

joined : pattern_of fold_evaluated (byte_of 0xab) (byte_of 0xcd) (operation concat (k ∷ m ∷ []) (int 8 ∷ int 8 ∷ []) (int 16 ∷ []))
    ≡ number_left (byte_of 0xab) (byte_of 0xcd) 0xabcd (int 16)
joined = refl

chosen : pattern_of fold_evaluated (byte_of 5) (bit_of 1) (operation mux (m ∷ k ∷ k ∷ []) bytes bytes) ≡ number_left (byte_of 5) (bit_of 1) 5 (int 8)
chosen = refl

-- a constant stays, and so does an operation of another value
constant_stays : pattern_of fold_evaluated (byte_of 1) (byte_of 2) (byte_of 3) ≡ None
constant_stays = refl

other_operand : pattern_of fold_evaluated (byte_of 1) (byte_of 2) (operation (variadic add) (k ∷ a ∷ []) bytes bytes) ≡ None
other_operand = refl

-- ---- operands that go

-- what is left where the operation has other operands
abbrev pub operands_left : Op → Op → Kind → List Ref → Option (List Op)
operands_left c e kind rs = Some (c ∷ e ∷ operation kind rs bytes bytes ∷ output_of (result 2 0) ∷ [])

add_zero : pattern_of fold_add_zero (byte_of 0) (byte_of 1) (operation (variadic add) (a ∷ k ∷ b ∷ k ∷ []) bytes bytes)
    ≡ operands_left (byte_of 0) (byte_of 1) (variadic add) (a ∷ b ∷ k ∷ [])
add_zero = refl

-- one operand alone stays
add_only_zero : pattern_of fold_add_zero (byte_of 0) (byte_of 1) (operation (variadic add) (k ∷ []) bytes bytes) ≡ None
add_only_zero = refl

or_zero : pattern_of fold_or_zero (byte_of 0) (byte_of 1) (operation (variadic or) (k ∷ a ∷ []) bytes bytes) ≡ operands_left (byte_of 0) (byte_of 1) (variadic or) (a ∷ [])
or_zero = refl

or_one : pattern_of fold_or_zero (byte_of 0) (byte_of 1) (operation (variadic or) (m ∷ a ∷ []) bytes bytes) ≡ None
or_one = refl

xor_zero : pattern_of fold_xor_zero (byte_of 0) (byte_of 1) (operation (variadic xor) (m ∷ k ∷ []) bytes bytes) ≡ operands_left (byte_of 0) (byte_of 1) (variadic xor) (m ∷ [])
xor_zero = refl

xor_is_no_or : pattern_of fold_or_zero (byte_of 0) (byte_of 1) (operation (variadic xor) (m ∷ k ∷ []) bytes bytes) ≡ None
xor_is_no_or = refl

and_ones : pattern_of fold_and_ones (byte_of 255) (byte_of 127) (operation (variadic and) (m ∷ k ∷ a ∷ []) bytes bytes)
    ≡ operands_left (byte_of 255) (byte_of 127) (variadic and) (m ∷ a ∷ [])
and_ones = refl

and_fewer_ones : pattern_of fold_and_ones (byte_of 255) (byte_of 127) (operation (variadic and) (m ∷ a ∷ []) bytes bytes) ≡ None
and_fewer_ones = refl

mul_one : pattern_of fold_mul_one (byte_of 2) (byte_of 1) (operation (variadic mul) (k ∷ m ∷ a ∷ []) bytes bytes)
    ≡ operands_left (byte_of 2) (byte_of 1) (variadic mul) (k ∷ a ∷ [])
mul_one = refl

mul_two : pattern_of fold_mul_one (byte_of 2) (byte_of 1) (operation (variadic mul) (k ∷ a ∷ []) bytes bytes) ≡ None
mul_two = refl

-- of two pairs the one whose first operand is earlier
repeated_operand : pattern_of fold_repeated (byte_of 0) (byte_of 1) (operation (variadic or) (a ∷ b ∷ k ∷ b ∷ a ∷ []) bytes bytes)
    ≡ operands_left (byte_of 0) (byte_of 1) (variadic or) (a ∷ b ∷ k ∷ b ∷ [])
repeated_operand = refl

all_differ : pattern_of fold_repeated (byte_of 0) (byte_of 1) (operation (variadic and) (a ∷ b ∷ k ∷ m ∷ []) bytes bytes) ≡ None
all_differ = refl

sum_keeps_both : pattern_of fold_repeated (byte_of 0) (byte_of 1) (operation (variadic add) (a ∷ a ∷ []) bytes bytes) ≡ None
sum_keeps_both = refl

xor_pair : pattern_of fold_xor_pair (byte_of 0) (byte_of 1) (operation (variadic xor) (a ∷ b ∷ k ∷ b ∷ []) bytes bytes)
    ≡ operands_left (byte_of 0) (byte_of 1) (variadic xor) (a ∷ k ∷ [])
xor_pair = refl

xor_all_differ : pattern_of fold_xor_pair (byte_of 0) (byte_of 1) (operation (variadic xor) (a ∷ b ∷ k ∷ []) bytes bytes) ≡ None
xor_all_differ = refl

xor_self : pattern_of fold_xor_self (byte_of 0) (byte_of 1) (operation (variadic xor) (a ∷ a ∷ []) bytes bytes) ≡ number_left (byte_of 0) (byte_of 1) 0 (int 8)
xor_self = refl

xor_other : pattern_of fold_xor_self (byte_of 0) (byte_of 1) (operation (variadic xor) (a ∷ b ∷ []) bytes bytes) ≡ None
xor_other = refl

-- ---- a field of a struct that was made of fields

abbrev pair : HwType
pair = struct (field (codes "p") (int 8) (field (codes "q") (int 8) no_fields))

abbrev pair_of : Op
pair_of = operation (on_struct struct_create) (a ∷ b ∷ []) (pair ∷ []) (pair ∷ [])

second_field : pattern_of fold_struct_part pair_of (byte_of 1) (operation (on_struct (struct_extract (codes "q"))) (k ∷ []) (pair ∷ []) bytes) ≡ left_of pair_of (byte_of 1) b
second_field = refl

field_of_port : pattern_of fold_struct_part pair_of (byte_of 1) (operation (on_struct (struct_extract (codes "q"))) (a ∷ []) (pair ∷ []) bytes) ≡ None
field_of_port = refl

-- ---- bits of joined values that are one of them

abbrev joined_of : Op
joined_of = operation concat (a ∷ b ∷ port 2 ∷ []) (int 8 ∷ int 8 ∷ int 4 ∷ []) (int 20 ∷ [])

middle_operand : pattern_of fold_extract_part joined_of (byte_of 1) (operation (extract 4) (k ∷ []) (int 20 ∷ int 8 ∷ []) bytes) ≡ left_of joined_of (byte_of 1) b
middle_operand = refl

beside_an_operand : pattern_of fold_extract_part joined_of (byte_of 1) (operation (extract 5) (k ∷ []) (int 20 ∷ int 8 ∷ []) bytes) ≡ None
beside_an_operand = refl

within_an_operand : pattern_of fold_extract_part joined_of (byte_of 1) (operation (extract 4) (k ∷ []) (int 20 ∷ int 7 ∷ []) (int 7 ∷ [])) ≡ None
within_an_operand = refl

-- ---- an element of an array that was made of elements: the last operand has index 0

abbrev triple_of : Op
triple_of = operation (on_array array_create) (a ∷ b ∷ port 2 ∷ []) bytes (array 3 (int 8) ∷ [])

abbrev element_read : Op
element_read = operation (on_array array_get) (k ∷ m ∷ []) (array 3 (int 8) ∷ int 2 ∷ []) bytes

highest_element : pattern_of fold_array_part triple_of (operation (constant (pos 2)) [] (int 2 ∷ []) (int 2 ∷ [])) element_read
    ≡ left_of triple_of (operation (constant (pos 2)) [] (int 2 ∷ []) (int 2 ∷ [])) a
highest_element = refl

past_the_end : pattern_of fold_array_part triple_of (operation (constant (pos 3)) [] (int 2 ∷ []) (int 2 ∷ [])) element_read ≡ None
past_the_end = refl
