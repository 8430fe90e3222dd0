-- The value of each kind of operation computed, and weights.
use Rattle.std.proofs.Common.{◌≡◌, ℕ, true, false, pos, negsuc, List, [], ◌∷◌, ◌++◌, map, None, refl}
use Rattle.std.specs.Prelude.{codes}
use Rattle.bits_core.specs.Word.{Word, bits, flag}
use Rattle.hw_model.specs.Types.{Name, HwType}
use Rattle.hw_model.specs.Types.HwType.{int, array, struct}
use Rattle.hw_model.specs.Types.FieldTypes.{no_fields, field}
use Rattle.hw_model.specs.Kinds.{Kind, Predicate}
use Rattle.hw_model.specs.Kinds.Predicate.{eq, ne, slt, sle, sgt, sge, ult, ule, ugt, uge, ceq, cne, weq, wne}
use Rattle.hw_model.specs.Kinds.Literal.{leaf, parts}
use Rattle.hw_model.specs.Kinds.Literals.{no_literals, literal}
use Rattle.hw_model.specs.Kinds.Variadic.{add, mul, and, or, xor}
use Rattle.hw_model.specs.Kinds.Division.{divu, modu, divs, mods}
use Rattle.hw_model.specs.Kinds.Shift.{shl, shru, shrs}
use Rattle.hw_model.specs.Kinds.ArrayOp.{array_create, array_concat, array_get, array_slice, array_inject}
use Rattle.hw_model.specs.Kinds.StructOp.{struct_create, struct_extract, struct_inject, struct_explode}
use Rattle.hw_model.specs.Kinds.Kind.{variadic, sub, division, shift, icmp, parity, extract, concat, replicate, mux, constant, aggregate_constant, on_array, on_struct, bitcast, wire, instance, output}
use Rattle.hw_model.specs.Design.{Ref, Op, Module, Design}
use Rattle.hw_model.specs.Design.Ref.{port, result}
use Rattle.hw_model.specs.Value.{op_value}
use Rattle.hw_model.specs.Weight.{weight}
use Rattle.hw_model.proofs.Samples.{operation, in_port, out_port, module_of, byte}

-- ---- integers

-- the value of a kind at eight bits
abbrev value_of_bytes : Kind → List ℕ → Word
value_of_bytes kind ns = op_value kind (int 8 ∷ []) (int 8) 0 (map byte ns)

sum : value_of_bytes (variadic add) (200 ∷ 100 ∷ 1 ∷ []) ≡ byte 45
sum = refl

product : value_of_bytes (variadic mul) (16 ∷ 17 ∷ []) ≡ byte 16
product = refl

all_ones : value_of_bytes (variadic and) (0xcc ∷ 0xaa ∷ 0xf0 ∷ []) ≡ byte 0x80
all_ones = refl

any_one : value_of_bytes (variadic or) (0x0c ∷ 0x0a ∷ 0x10 ∷ []) ≡ byte 0x1e
any_one = refl

odd_ones : value_of_bytes (variadic xor) (0xcc ∷ 0xaa ∷ 0x01 ∷ []) ≡ byte 0x67
odd_ones = refl

difference : value_of_bytes sub (1 ∷ 2 ∷ []) ≡ byte 0xff
difference = refl

unsigned_quotient : value_of_bytes (division divu) (0xf9 ∷ 3 ∷ []) ≡ byte 0x53
unsigned_quotient = refl

unsigned_rest : value_of_bytes (division modu) (0xf9 ∷ 4 ∷ []) ≡ byte 1
unsigned_rest = refl

least_by_minus_one : value_of_bytes (division divs) (0x80 ∷ 0xff ∷ []) ≡ byte 0x80
least_by_minus_one = refl

rest_has_sign_of_dividend : value_of_bytes (division mods) (0xf9 ∷ 3 ∷ []) ≡ byte 0xff
rest_has_sign_of_dividend = refl

shift_up : value_of_bytes (shift shl) (0x81 ∷ 1 ∷ []) ≡ byte 0x02
shift_up = refl

shift_up_out : value_of_bytes (shift shl) (0x81 ∷ 9 ∷ []) ≡ byte 0
shift_up_out = refl

shift_down : value_of_bytes (shift shru) (0x81 ∷ 1 ∷ []) ≡ byte 0x40
shift_down = refl

shift_down_out : value_of_bytes (shift shru) (0x80 ∷ 8 ∷ []) ≡ byte 0
shift_down_out = refl

shift_down_signed : value_of_bytes (shift shrs) (0x81 ∷ 1 ∷ []) ≡ byte 0xc0
shift_down_signed = refl

shift_down_signed_out : value_of_bytes (shift shrs) (0x80 ∷ 9 ∷ []) ≡ byte 0xff
shift_down_signed_out = refl

-- whether a predicate holds of two bytes
abbrev holds_of : ℕ → ℕ → Predicate → Word
holds_of x y p = op_value (icmp p) (int 8 ∷ []) (int 1) 0 (byte x ∷ byte y ∷ [])

abbrev predicates : List Predicate
predicates = eq ∷ ne ∷ slt ∷ sle ∷ sgt ∷ sge ∷ ult ∷ ule ∷ ugt ∷ uge ∷ ceq ∷ cne ∷ weq ∷ wne ∷ []

-- -128 and 1, which are 128 and 1 without sign
comparison : map (holds_of 0x80 0x01) predicates
    ≡ map flag (false ∷ true ∷ true ∷ true ∷ false ∷ false ∷ false ∷ false ∷ true ∷ true ∷ false ∷ true ∷ false ∷ true ∷ [])
comparison = refl

comparison_of_equals : map (holds_of 5 5) predicates
    ≡ map flag (true ∷ false ∷ false ∷ true ∷ false ∷ true ∷ false ∷ true ∷ false ∷ true ∷ true ∷ false ∷ true ∷ false ∷ [])
comparison_of_equals = refl

odd_number_of_ones : op_value parity (int 8 ∷ []) (int 1) 0 (byte 0x07 ∷ []) ≡ flag true
odd_number_of_ones = refl

bits_from_two : op_value (extract 2) (int 8 ∷ int 4 ∷ []) (int 4) 0 (byte 0xb6 ∷ []) ≡ bits 4 0xd
bits_from_two = refl

first_is_highest : op_value concat (int 4 ∷ int 8 ∷ []) (int 12) 0 (bits 4 0xa ∷ byte 0x5c ∷ []) ≡ bits 12 0xa5c
first_is_highest = refl

three_times : op_value replicate (int 2 ∷ int 6 ∷ []) (int 6) 0 (bits 2 1 ∷ []) ≡ bits 6 0x15
three_times = refl

chosen_first : op_value mux (int 8 ∷ []) (int 8) 0 (flag true ∷ byte 1 ∷ byte 2 ∷ []) ≡ byte 1
chosen_first = refl

chosen_second : op_value mux (int 8 ∷ []) (int 8) 0 (flag false ∷ byte 1 ∷ byte 2 ∷ []) ≡ byte 2
chosen_second = refl

minus_three : op_value (constant (negsuc 2)) (int 8 ∷ []) (int 8) 0 [] ≡ byte 0xfd
minus_three = refl

-- ---- aggregates

abbrev three_bytes : HwType
three_bytes = array 3 (int 8)

-- elements 2, 1 and 0
abbrev three : Word
three = byte 0x30 ++ byte 0x20 ++ byte 0x10

abbrev pair : HwType
pair = struct (field (codes "p") (int 8) (field (codes "q") (int 8) no_fields))

constant_array : op_value (aggregate_constant (literal (leaf (pos 1) (int 8)) (literal (leaf (negsuc 0) (int 8)) no_literals))) (array 2 (int 8) ∷ []) (array 2 (int 8)) 0 [] ≡ byte 1 ++ byte 0xff
constant_array = refl

nested_constant : op_value (aggregate_constant (literal (parts (literal (leaf (pos 5) (int 4)) no_literals)) (literal (leaf (pos 3) (int 2)) no_literals))) [] (struct no_fields) 0 [] ≡ bits 4 5 ++ bits 2 3
nested_constant = refl

array_of_three : op_value (on_array array_create) (int 8 ∷ []) three_bytes 0 (byte 0x30 ∷ byte 0x20 ∷ byte 0x10 ∷ []) ≡ three
array_of_three = refl

arrays_joined : op_value (on_array array_concat) (array 1 (int 8) ∷ array 2 (int 8) ∷ []) three_bytes 0 (byte 0x30 ∷ (byte 0x20 ++ byte 0x10) ∷ []) ≡ three
arrays_joined = refl

element_one : op_value (on_array array_get) (three_bytes ∷ int 2 ∷ []) (int 8) 0 (three ∷ bits 2 1 ∷ []) ≡ byte 0x20
element_one = refl

element_past_the_end : op_value (on_array array_get) (three_bytes ∷ int 2 ∷ []) (int 8) 0 (three ∷ bits 2 3 ∷ []) ≡ byte 0
element_past_the_end = refl

elements_one_and_two : op_value (on_array array_slice) (three_bytes ∷ array 2 (int 8) ∷ []) (array 2 (int 8)) 0 (three ∷ bits 2 1 ∷ []) ≡ byte 0x30 ++ byte 0x20
elements_one_and_two = refl

elements_two_and_past : op_value (on_array array_slice) (three_bytes ∷ array 2 (int 8) ∷ []) (array 2 (int 8)) 0 (three ∷ bits 2 2 ∷ []) ≡ byte 0 ++ byte 0x30
elements_two_and_past = refl

element_replaced : op_value (on_array array_inject) (three_bytes ∷ int 2 ∷ []) three_bytes 0 (three ∷ bits 2 1 ∷ byte 0xff ∷ []) ≡ byte 0x30 ++ byte 0xff ++ byte 0x10
element_replaced = refl

element_past_replaced : op_value (on_array array_inject) (three_bytes ∷ int 2 ∷ []) three_bytes 0 (three ∷ bits 2 3 ∷ byte 0xff ∷ []) ≡ three
element_past_replaced = refl

struct_of_two : op_value (on_struct struct_create) (pair ∷ []) pair 0 (byte 0xab ∷ byte 0xcd ∷ []) ≡ bits 16 0xabcd
struct_of_two = refl

field_q : op_value (on_struct (struct_extract (codes "q"))) (pair ∷ []) (int 8) 0 (bits 16 0xabcd ∷ []) ≡ byte 0xcd
field_q = refl

field_p_replaced : op_value (on_struct (struct_inject (codes "p"))) (pair ∷ []) pair 0 (bits 16 0xabcd ∷ byte 0x11 ∷ []) ≡ bits 16 0x11cd
field_p_replaced = refl

fields_apart : map (λ k. op_value (on_struct struct_explode) (pair ∷ []) (int 8) k (bits 16 0xabcd ∷ [])) (0 ∷ 1 ∷ []) ≡ byte 0xab ∷ byte 0xcd ∷ []
fields_apart = refl

same_bits : op_value bitcast (int 16 ∷ pair ∷ []) pair 0 (bits 16 0xabcd ∷ []) ≡ bits 16 0xabcd
same_bits = refl

same_value : op_value wire (int 8 ∷ []) (int 8) 0 (byte 7 ∷ []) ≡ byte 7
same_value = refl

-- ---- weights: each module has two instances of the one before

abbrev inner_of : Name → Ref → Op
inner_of inner r =
    operation (instance (record { name = codes "u"; inner_symbol = None; symbol = inner; inputs = codes "a" ∷ []; outputs = codes "b" ∷ [] }))
    (r ∷ []) (int 1 ∷ int 1 ∷ []) (int 1 ∷ [])

abbrev doubled : Name → Name → Module
doubled symbol inner =
    module_of symbol (in_port (codes "a") (int 1) ∷ out_port (codes "b") (int 1) ∷ [])
    (inner_of inner (port 0) ∷ inner_of inner (result 0 0) ∷ operation output (result 1 0 ∷ []) (int 1 ∷ []) [] ∷ [])

abbrev doubling : Design
doubling =
    module_of (codes "M0") (in_port (codes "a") (int 1) ∷ out_port (codes "b") (int 1) ∷ []) (operation output (port 0 ∷ []) (int 1 ∷ []) [] ∷ [])
    ∷ doubled (codes "M1") (codes "M0") ∷ doubled (codes "M2") (codes "M1") ∷ doubled (codes "M3") (codes "M2") ∷ []

-- 14 * 2 ^ k - 10
weights : map (weight doubling) (codes "M0" ∷ codes "M1" ∷ codes "M2" ∷ codes "M3" ∷ []) ≡ 4 ∷ 18 ∷ 46 ∷ 102 ∷ []
weights = refl
