-- The families that values of code stand for.
use Rattle.hw_model.specs.Kinds.{Kind as HwKind, Variadic as HwVariadic, Division as HwDivision, Shift as HwShift, ArrayOp as HwArrayOp, StructOp as HwStructOp, RegisterOp as HwRegisterOp}
use Rattle.hw_model.specs.KindViews.{predicate_of, integer_of, reset_of, literals_in, instance_of}
use Rattle.hw_model.specs.declared.families.Variadic.{Variadic}
use Rattle.hw_model.specs.declared.families.Variadic.TheVariants.{Add, Mul, And, Or, Xor}
use Rattle.hw_model.specs.declared.families.Division.{Division}
use Rattle.hw_model.specs.declared.families.Division.TheVariants.{Divu, Modu, Divs, Mods}
use Rattle.hw_model.specs.declared.families.Shift.{Shift}
use Rattle.hw_model.specs.declared.families.Shift.TheVariants.{Shl, Shru, Shrs}
use Rattle.hw_model.specs.declared.families.ArrayOp.{ArrayOp}
use Rattle.hw_model.specs.declared.families.ArrayOp.TheVariants as arrays
use Rattle.hw_model.specs.declared.families.StructOp.{StructOp}
use Rattle.hw_model.specs.declared.families.StructOp.TheVariants as structs
use Rattle.hw_model.specs.declared.families.RegisterOp.{RegisterOp}
use Rattle.hw_model.specs.declared.families.RegisterOp.TheVariants.{CompReg, CompRegCe, FirReg}
use Rattle.hw_model.specs.declared.families.Family.{Family}
use Rattle.hw_model.specs.declared.families.Family.TheVariants as families

abbrev pub variadic_of : Variadic → HwVariadic
variadic_of Add = HwVariadic.add
variadic_of Mul = HwVariadic.mul
variadic_of And = HwVariadic.and
variadic_of Or = HwVariadic.or
variadic_of Xor = HwVariadic.xor

abbrev pub division_of : Division → HwDivision
division_of Divu = HwDivision.divu
division_of Modu = HwDivision.modu
division_of Divs = HwDivision.divs
division_of Mods = HwDivision.mods

abbrev pub shift_of : Shift → HwShift
shift_of Shl = HwShift.shl
shift_of Shru = HwShift.shru
shift_of Shrs = HwShift.shrs

abbrev pub array_op_of : ArrayOp → HwArrayOp
array_op_of arrays.Create = HwArrayOp.array_create
array_op_of arrays.Concat = HwArrayOp.array_concat
array_op_of arrays.Get = HwArrayOp.array_get
array_op_of arrays.Slice = HwArrayOp.array_slice
array_op_of arrays.Inject = HwArrayOp.array_inject

abbrev pub struct_op_of : StructOp → HwStructOp
struct_op_of structs.Create = HwStructOp.struct_create
struct_op_of (structs.Extract name) = HwStructOp.struct_extract name.now
struct_op_of (structs.Inject name) = HwStructOp.struct_inject name.now
struct_op_of structs.Explode = HwStructOp.struct_explode

abbrev pub register_op_of : RegisterOp → HwRegisterOp
register_op_of CompReg = HwRegisterOp.compreg
register_op_of CompRegCe = HwRegisterOp.compreg_ce
register_op_of FirReg = HwRegisterOp.firreg

abbrev pub family_of : Family → HwKind
family_of (families.Variadic v) = HwKind.variadic (variadic_of v)
family_of families.Sub = HwKind.sub
family_of (families.Division d) = HwKind.division (division_of d)
family_of (families.Shift s) = HwKind.shift (shift_of s)
family_of (families.Icmp p) = HwKind.icmp (predicate_of p)
family_of families.Parity = HwKind.parity
family_of (families.Extract low) = HwKind.extract low
family_of families.Concat = HwKind.concat
family_of families.Replicate = HwKind.replicate
family_of families.Mux = HwKind.mux
family_of (families.Constant z) = HwKind.constant (integer_of z)
family_of (families.AggregateConstant ls) = HwKind.aggregate_constant (literals_in ls.now)
family_of (families.Array a) = HwKind.on_array (array_op_of a)
family_of (families.Struct s) = HwKind.on_struct (struct_op_of s)
family_of families.Bitcast = HwKind.bitcast
family_of families.Wire = HwKind.wire
family_of (families.Instance i) = HwKind.instance (instance_of i.now)
family_of families.Output = HwKind.output
family_of (families.Register f r) = HwKind.register (register_op_of f) (reset_of r)
family_of families.AsyncFirReg = HwKind.async_firreg
