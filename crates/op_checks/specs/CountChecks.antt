-- How many operands, types and results an operation has (CIRCT: operation references of the HW, Comb and Seq dialects).
-- In a text that is read only the results named, the fields of hw.struct_create and the elements of
-- hw.aggregate_constant can be too few or too many.
use Rattle.std.specs.Prelude.{ℕ, ◌+◌, max, Bool, false, not, ◌||◌, nat_eq, List, length, Option, Some, None}
use Rattle.hw_model.specs.Types.{HwType}
use Rattle.hw_model.specs.Kinds.{Kind, Reset, Literals, ArrayOp, StructOp, RegisterOp}
use Rattle.hw_model.specs.Kinds.Reset.{no_reset, sync_reset}
use Rattle.hw_model.specs.Kinds.Literal.{parts}
use Rattle.hw_model.specs.Kinds.ArrayOp.{array_create, array_concat, array_get, array_slice, array_inject}
use Rattle.hw_model.specs.Kinds.StructOp.{struct_create, struct_extract, struct_inject, struct_explode}
use Rattle.hw_model.specs.Kinds.RegisterOp.{compreg, compreg_ce, firreg}
use Rattle.hw_model.specs.Kinds.Kind.{variadic, parity, extract, concat, replicate, mux, constant, aggregate_constant, on_array, on_struct, bitcast, wire, instance, output, register, async_firreg}
use Rattle.type_inference.specs.ResultTypes.{first_type, field_count, result_count}
use Rattle.op_checks.specs.LiteralChecks.{is_miscounted}

-- the operands of a reset
abbrev pub reset_operands : Reset → ℕ
reset_operands no_reset = 0
reset_operands sync_reset = 2

-- those of a register without its reset
abbrev pub register_operands : RegisterOp → ℕ
register_operands compreg = 2
register_operands compreg_ce = 3
register_operands firreg = 2

-- those of an operation on arrays that has n
abbrev pub array_operands : ArrayOp → ℕ → ℕ
array_operands array_create n = max 1 n
array_operands array_concat n = max 1 n
array_operands array_get n = 2
array_operands array_slice n = 2
array_operands array_inject n = 3

-- those of an operation on structs that has n
abbrev pub struct_operands : StructOp → ℕ → ℕ
struct_operands struct_create n = n
struct_operands (struct_extract name) n = 1
struct_operands (struct_inject name) n = 2
struct_operands struct_explode n = 1

-- how many operands are written of an operation that has n: of some kinds any number, of some any from 1 on
unfoldable pub operands_written : Kind → ℕ → ℕ
operands_written (variadic v) n = max 1 n
operands_written parity n = 1
operands_written (extract low) n = 1
operands_written concat n = max 1 n
operands_written replicate n = 1
operands_written mux n = 3
operands_written (constant z) n = 0
operands_written (aggregate_constant ls) n = 0
operands_written (on_array a) n = array_operands a n
operands_written (on_struct s) n = struct_operands s n
operands_written bitcast n = 1
operands_written wire n = 1
operands_written (instance i) n = length i.inputs
operands_written output n = n
operands_written (register f r) n = register_operands f + reset_operands r
operands_written async_firreg n = register_operands firreg + reset_operands sync_reset
operands_written kind n = 2

-- how many an operation takes that writes these types and has n: a struct that is made takes one for each of its fields
unfoldable pub operand_count : Kind → List HwType → ℕ → ℕ
operand_count (on_struct struct_create) ts n = field_count (first_type ts)
operand_count kind ts n = operands_written kind n

-- how many types an operation on arrays writes
abbrev pub array_types : ArrayOp → ℕ → ℕ
array_types array_create n = 1
array_types array_concat n = n
array_types _ n = 2

-- how many types it writes
unfoldable pub type_count : Kind → ℕ → ℕ
type_count (extract low) n = 2
type_count concat n = n
type_count replicate n = 2
type_count (on_array a) n = array_types a n
type_count bitcast n = 2
type_count (instance i) n = length i.inputs + length i.outputs
type_count output n = n
type_count kind n = 1

-- whether a constant has other numbers of parts than its type
abbrev pub parts_miscounted : Literals → Option HwType → Bool
parts_miscounted ls None = false
parts_miscounted ls (Some t) = is_miscounted (parts ls) t

-- whether an aggregate constant has
unfoldable pub has_miscounted_parts : Kind → List HwType → Bool
has_miscounted_parts (aggregate_constant ls) ts = parts_miscounted ls (first_type ts)
has_miscounted_parts kind ts = false

-- whether the operands or the types are too few or too many
unfoldable pub has_wrong_operands : Kind → List HwType → ℕ → Bool
has_wrong_operands kind ts n = not (nat_eq n (operand_count kind ts n)) || not (nat_eq (length ts) (type_count kind n))

-- whether the results are, or those that are named
unfoldable pub has_wrong_results : Kind → List HwType → ℕ → ℕ → Bool
has_wrong_results kind ts count named = not (nat_eq named (result_count kind ts)) || not (nat_eq count (result_count kind ts))

-- whether an operation has a wrong number of values
unfoldable pub has_wrong_count : Kind → List HwType → List HwType → ℕ → List (Option HwType) → Bool
has_wrong_count kind ts rs named xs = has_wrong_operands kind ts (length xs) || (has_wrong_results kind ts (length rs) named || has_miscounted_parts kind ts)
