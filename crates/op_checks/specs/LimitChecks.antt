-- The limits that an operation's types and attributes keep (CIRCT: operation references of the HW and Comb dialects).
use Rattle.std.specs.Prelude.{ℕ, ◌+◌, ◌-◌, ◌^◌, ◌%◌, Bool, false, not, ◌&&◌, ◌||◌, ◌==◌, nat_eq, nat_lt, nat_le, List, length, drop, Option, Some, None, is_none}
use Rattle.std.specs.List.{list_any}
use Rattle.hw_model.specs.Types.{HwType, width}
use Rattle.hw_model.specs.Kinds.{Kind}
use Rattle.hw_model.specs.Kinds.ArrayOp.{array_create, array_concat, array_get, array_slice, array_inject}
use Rattle.hw_model.specs.Kinds.StructOp.{struct_extract, struct_inject}
use Rattle.hw_model.specs.Kinds.Kind.{division, extract, concat, replicate, constant, aggregate_constant, on_array, on_struct, bitcast, instance, register, async_firreg}
use Rattle.type_inference.specs.ResultTypes.{first_type, second_type, field_of, joined_width}
use Rattle.op_checks.specs.TypeChecks.{is_outside, has_bad_field, has_clock_part, is_clock}
use Rattle.op_checks.specs.TypeLists.{int_width, array_length, settled_at}
use Rattle.op_checks.specs.LiteralChecks.{is_outside_type, any_failing_leaf}
use Rattle.op_checks.specs.declared.literal_checks.LeafTest.TheVariants as leaf_test

-- a fact of a type that is there
abbrev pub of_type : (HwType → Bool) → Option HwType → Bool
of_type p None = false
of_type p (Some t) = p t

-- a fact of two numbers that are there
abbrev pub of_both : (ℕ → ℕ → Bool) → Option ℕ → Option ℕ → Bool
of_both p (Some m) (Some n) = p m n
of_both p _ _ = false

-- whether the array that an operation makes of its parts is outside the limits: every other result's type is a written
-- type, i1 or a part of one, but that of comb.concat, which has a limit of its own
abbrev pub has_outside_array : Kind → List HwType → Bool
has_outside_array (on_array array_create) rs = of_type is_outside (first_type rs)
has_outside_array (on_array array_concat) rs = of_type is_outside (first_type rs)
has_outside_array kind rs = false

-- whether a leaf of an aggregate constant writes a type outside the limits
abbrev pub has_outside_leaf : Kind → Bool
has_outside_leaf (aggregate_constant ls) = any_failing_leaf leaf_test.Width ls
has_outside_leaf kind = false

-- whether a written type or a result's is outside the limits
unfoldable pub has_type_outside : Kind → List HwType → List HwType → Bool
has_type_outside kind ts rs = list_any is_outside ts || (has_outside_leaf kind || has_outside_array kind rs)

-- whether a constant is out of the range of its type
unfoldable pub has_constant_outside : Kind → List HwType → Bool
has_constant_outside (constant z) ts = of_type (is_outside_type z) (first_type ts)
has_constant_outside (aggregate_constant ls) ts = any_failing_leaf leaf_test.Range ls
has_constant_outside kind ts = false

-- whether v bits from one on are not within w
abbrev pub reaches_past : ℕ → ℕ → ℕ → Bool
reaches_past low w v = nat_lt w (low + v)

-- whether an extract reaches past its operand
unfoldable pub has_extract_outside : Kind → List HwType → Bool
has_extract_outside (extract low) ts = of_both (reaches_past low) (int_width (first_type ts)) (int_width (second_type ts))
has_extract_outside kind ts = false

-- whether a width v is no positive multiple of w
abbrev pub is_no_multiple : ℕ → ℕ → Bool
is_no_multiple w v = (w == 0) || ((v == 0) || not (v % w == 0))

-- whether a replicate is no whole number of copies
unfoldable pub has_broken_copy : Kind → List HwType → Bool
has_broken_copy replicate ts = of_both is_no_multiple (int_width (first_type ts)) (int_width (second_type ts))
has_broken_copy kind ts = false

-- whether joined integers have more than 128 bits
abbrev pub is_too_wide : Option ℕ → Bool
is_too_wide None = false
is_too_wide (Some w) = nat_lt 128 w

-- whether a concat is wider than an integer may be
unfoldable pub has_wide_concat : Kind → List HwType → Bool
has_wide_concat concat ts = is_too_wide (joined_width ts)
has_wide_concat kind ts = false

-- whether a division's divisor is not known to be a nonzero constant
unfoldable pub has_unknown_divisor : Kind → Bool → Bool
has_unknown_divisor (division d) is_known = not is_known
has_unknown_divisor kind is_known = false

-- whether k is the width of the indices of an array of n elements: the least of at least 1 with n ≤ 2^k
unfoldable pub is_width_of_index : ℕ → ℕ → Bool
is_width_of_index n k = nat_le 1 k && (nat_le n (2 ^ k) && (nat_le k 1 || nat_lt (2 ^ (k - 1)) n))

-- whether an index has another width than its array asks for
abbrev pub is_no_index : Option HwType → Option HwType → Bool
is_no_index a i = of_both (λ n k. not (is_width_of_index n k)) (array_length a) (int_width i)

-- whether the second array is longer than the first
abbrev pub is_longer : Option HwType → Option HwType → Bool
is_longer a b = of_both nat_lt (array_length a) (array_length b)

-- whether an index has another width than its array asks for, or a slice is longer than its array
unfoldable pub has_wrong_index : Kind → List HwType → List (Option HwType) → Bool
has_wrong_index (on_array array_get) ts xs = is_no_index (first_type ts) (second_type ts)
has_wrong_index (on_array array_slice) ts xs = is_no_index (first_type ts) (settled_at xs 1) || is_longer (first_type ts) (second_type ts)
has_wrong_index (on_array array_inject) ts xs = is_no_index (first_type ts) (second_type ts)
has_wrong_index kind ts xs = false

-- whether an operation's field is not in its struct
abbrev pub has_unknown_field : Kind → List HwType → Bool
has_unknown_field (on_struct (struct_extract name)) ts = is_none (field_of (first_type ts) name)
has_unknown_field (on_struct (struct_inject name)) ts = is_none (field_of (first_type ts) name)
has_unknown_field kind ts = false

-- whether a field is unknown, or its name stands twice in a written type; the parts of a result's type are those of
-- written ones
unfoldable pub has_wrong_field : Kind → List HwType → Bool
has_wrong_field kind ts = list_any has_bad_field ts || has_unknown_field kind ts

-- whether two types that are there have different widths
abbrev pub are_unequal : Option HwType → Option HwType → Bool
are_unequal (Some t) (Some u) = not (nat_eq (width t) (width u))
are_unequal _ _ = false

-- whether a bitcast's types have different widths
unfoldable pub has_unequal_widths : Kind → List HwType → Bool
has_unequal_widths bitcast ts = are_unequal (first_type ts) (second_type ts)
has_unequal_widths kind ts = false

-- the written types that may not be the clock's: all but those of an instance's operands
abbrev pub value_types : Kind → List HwType → List HwType
value_types (instance i) ts = drop (length i.inputs) ts
value_types kind ts = ts

-- whether a register has a clock for another operand than its clock, the second
abbrev pub has_other_clock : List (Option HwType) → Bool
has_other_clock xs = of_type is_clock (settled_at xs 0) || list_any (of_type is_clock) (drop 2 xs)

-- whether a clock is an operand, other than a register's clock or an instance's operand
unfoldable pub has_clock_operand : Kind → List (Option HwType) → Bool
has_clock_operand (instance i) xs = false
has_clock_operand (register f r) xs = has_other_clock xs
has_clock_operand async_firreg xs = has_other_clock xs
has_clock_operand kind xs = list_any (of_type is_clock) xs

-- whether a clock stands where a value is wanted: within an aggregate, as a written type, so as a result or the type of a
-- register, or as an operand. A result of clock type has a written one, or is a part of one.
unfoldable pub has_clock_value : Kind → List HwType → List (Option HwType) → Bool
has_clock_value kind ts xs = list_any has_clock_part ts || (list_any is_clock (value_types kind ts) || has_clock_operand kind xs)
