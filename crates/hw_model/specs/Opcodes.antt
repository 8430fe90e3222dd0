-- The opcode of each operation, and the operations that their opcodes alone tell (CIRCT: operation references of the HW, Comb
-- and Seq dialects).
use Rattle.std.specs.Prelude.{Option, Some, None}
use Rattle.opcode.specs.declared.listed.Listed.{Listed}
use Rattle.opcode.specs.declared.listed.Listed.TheVariants as listed
use Rattle.hw_model.specs.Kinds.{Kind, Variadic, Division, Shift, ArrayOp, StructOp, RegisterOp}
use Rattle.hw_model.specs.Kinds.Variadic.{add, mul, and, or, xor}
use Rattle.hw_model.specs.Kinds.Division.{divu, modu, divs, mods}
use Rattle.hw_model.specs.Kinds.Shift.{shl, shru, shrs}
use Rattle.hw_model.specs.Kinds.ArrayOp.{array_create, array_concat, array_get, array_slice, array_inject}
use Rattle.hw_model.specs.Kinds.StructOp.{struct_create, struct_extract, struct_inject, struct_explode}
use Rattle.hw_model.specs.Kinds.RegisterOp.{compreg, compreg_ce, firreg}
use Rattle.hw_model.specs.Kinds.Kind.{variadic, sub, division, shift, icmp, parity, extract, concat, replicate, mux, constant, aggregate_constant, on_array, on_struct, bitcast, wire, instance, output, register, async_firreg}

abbrev pub variadic_opcode : Variadic → Listed
variadic_opcode add = listed.CombAdd
variadic_opcode mul = listed.CombMul
variadic_opcode and = listed.CombAnd
variadic_opcode or = listed.CombOr
variadic_opcode xor = listed.CombXor

abbrev pub division_opcode : Division → Listed
division_opcode divu = listed.CombDivu
division_opcode modu = listed.CombModu
division_opcode divs = listed.CombDivs
division_opcode mods = listed.CombMods

abbrev pub shift_opcode : Shift → Listed
shift_opcode shl = listed.CombShl
shift_opcode shru = listed.CombShru
shift_opcode shrs = listed.CombShrs

abbrev pub array_opcode : ArrayOp → Listed
array_opcode array_create = listed.HwArrayCreate
array_opcode array_concat = listed.HwArrayConcat
array_opcode array_get = listed.HwArrayGet
array_opcode array_slice = listed.HwArraySlice
array_opcode array_inject = listed.HwArrayInject

abbrev pub struct_opcode : StructOp → Listed
struct_opcode struct_create = listed.HwStructCreate
struct_opcode (struct_extract name) = listed.HwStructExtract
struct_opcode (struct_inject name) = listed.HwStructInject
struct_opcode struct_explode = listed.HwStructExplode

abbrev pub register_opcode : RegisterOp → Listed
register_opcode compreg = listed.SeqCompreg
register_opcode compreg_ce = listed.SeqCompregCe
register_opcode firreg = listed.SeqFirreg

-- the opcode of an operation of a kind
abbrev pub opcode_of : Kind → Listed
opcode_of (variadic v) = variadic_opcode v
opcode_of sub = listed.CombSub
opcode_of (division d) = division_opcode d
opcode_of (shift s) = shift_opcode s
opcode_of (icmp p) = listed.CombIcmp
opcode_of parity = listed.CombParity
opcode_of (extract low) = listed.CombExtract
opcode_of concat = listed.CombConcat
opcode_of replicate = listed.CombReplicate
opcode_of mux = listed.CombMux
opcode_of (constant z) = listed.HwConstant
opcode_of (aggregate_constant ls) = listed.HwAggregateConstant
opcode_of (on_array a) = array_opcode a
opcode_of (on_struct s) = struct_opcode s
opcode_of bitcast = listed.HwBitcast
opcode_of wire = listed.HwWire
opcode_of (instance i) = listed.HwInstance
opcode_of output = listed.HwOutput
opcode_of (register f r) = register_opcode f
opcode_of async_firreg = listed.SeqFirreg

-- the kind that an opcode alone tells; none where operations say more than their operands and types
abbrev pub kind_named_by : Listed → Option Kind
kind_named_by listed.CombAdd = Some (variadic add)
kind_named_by listed.CombMul = Some (variadic mul)
kind_named_by listed.CombAnd = Some (variadic and)
kind_named_by listed.CombOr = Some (variadic or)
kind_named_by listed.CombXor = Some (variadic xor)
kind_named_by listed.CombSub = Some sub
kind_named_by listed.CombDivu = Some (division divu)
kind_named_by listed.CombModu = Some (division modu)
kind_named_by listed.CombDivs = Some (division divs)
kind_named_by listed.CombMods = Some (division mods)
kind_named_by listed.CombShl = Some (shift shl)
kind_named_by listed.CombShru = Some (shift shru)
kind_named_by listed.CombShrs = Some (shift shrs)
kind_named_by listed.CombParity = Some parity
kind_named_by listed.CombConcat = Some concat
kind_named_by listed.CombReplicate = Some replicate
kind_named_by listed.CombMux = Some mux
kind_named_by listed.HwArrayCreate = Some (on_array array_create)
kind_named_by listed.HwArrayConcat = Some (on_array array_concat)
kind_named_by listed.HwArrayGet = Some (on_array array_get)
kind_named_by listed.HwArraySlice = Some (on_array array_slice)
kind_named_by listed.HwArrayInject = Some (on_array array_inject)
kind_named_by listed.HwStructCreate = Some (on_struct struct_create)
kind_named_by listed.HwStructExplode = Some (on_struct struct_explode)
kind_named_by listed.HwBitcast = Some bitcast
kind_named_by listed.HwWire = Some wire
kind_named_by listed.HwOutput = Some output
kind_named_by _ = None
