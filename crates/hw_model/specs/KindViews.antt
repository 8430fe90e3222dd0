-- The kinds that values of `OpKind` stand for.
use Rattle.std.specs.Prelude.{ℤ, pos, negsuc, List, [], ◌∷◌}
use Rattle.std.specs.Box.{box_value}
use Rattle.hw_model.specs.TypeViews.{type_of}
use Rattle.hw_model.specs.Kinds.{Kind as HwKind, Predicate as HwPredicate, Reset as HwReset, Literal as HwLiteral, Literals, Instance as HwInstance}
use Rattle.hw_model.specs.Kinds.Variadic.{add, mul, and, or, xor}
use Rattle.hw_model.specs.Kinds.Division.{divu, modu, divs, mods}
use Rattle.hw_model.specs.Kinds.Shift.{shl, shru, shrs}
use Rattle.hw_model.specs.Kinds.ArrayOp.{array_create, array_concat, array_get, array_slice, array_inject}
use Rattle.hw_model.specs.Kinds.StructOp.{struct_create, struct_extract, struct_inject, struct_explode}
use Rattle.hw_model.specs.Kinds.RegisterOp.{compreg, compreg_ce, firreg}
use Rattle.hw_model.specs.declared.kinds.Predicate.{Predicate}
use Rattle.hw_model.specs.declared.kinds.Predicate.TheVariants.{Eq, Ne, Slt, Sle, Sgt, Sge, Ult, Ule, Ugt, Uge, Ceq, Cne, Weq, Wne}
use Rattle.hw_model.specs.declared.kinds.Reset.{Reset}
use Rattle.hw_model.specs.declared.kinds.Reset.TheVariants as resets
use Rattle.hw_model.specs.declared.kinds.Integer.{Integer}
use Rattle.hw_model.specs.declared.kinds.Integer.TheVariants.{NonNegative, Negative}
use Rattle.hw_model.specs.declared.kinds.Instance.{Instance}
use Rattle.hw_model.specs.declared.kinds.Literal.{Literal}
use Rattle.hw_model.specs.declared.kinds.LiteralList.{LiteralList}
use Rattle.hw_model.specs.declared.kinds.Literal.TheOpen.{Literal-F, LiteralList-F}
use Rattle.hw_model.specs.declared.kinds.Literal.TheFolds.{fold-Literal, fold-LiteralList}
use Rattle.hw_model.specs.declared.kinds.OpKind.{OpKind}
use Rattle.hw_model.specs.declared.kinds.OpKind.TheVariants as kinds

abbrev pub predicate_of : Predicate → HwPredicate
predicate_of Eq = HwPredicate.eq
predicate_of Ne = HwPredicate.ne
predicate_of Slt = HwPredicate.slt
predicate_of Sle = HwPredicate.sle
predicate_of Sgt = HwPredicate.sgt
predicate_of Sge = HwPredicate.sge
predicate_of Ult = HwPredicate.ult
predicate_of Ule = HwPredicate.ule
predicate_of Ugt = HwPredicate.ugt
predicate_of Uge = HwPredicate.uge
predicate_of Ceq = HwPredicate.ceq
predicate_of Cne = HwPredicate.cne
predicate_of Weq = HwPredicate.weq
predicate_of Wne = HwPredicate.wne

abbrev pub reset_of : Reset → HwReset
reset_of resets.No = HwReset.no_reset
reset_of resets.Sync = HwReset.sync_reset

abbrev pub integer_of : Integer → ℤ
integer_of (NonNegative n) = pos n
integer_of (Negative n) = negsuc n

-- constants in order
abbrev pub literals_of : List HwLiteral → Literals
literals_of [] = Literals.no_literals
literals_of (l ∷ ls) = Literals.literal l (literals_of ls)

-- one level of each, with the constants inside already seen
abbrev pub literal_step : Literal-F HwLiteral Literals → HwLiteral
literal_step (Literal-F.Leaf z t) = HwLiteral.leaf (integer_of z) (type_of t)
literal_step (Literal-F.Parts ls) = HwLiteral.parts ls

abbrev pub literals_step : LiteralList-F HwLiteral Literals → Literals
literals_step l = literals_of l.literals.items

abbrev pub literal_of : Literal → HwLiteral
literal_of = fold-Literal HwLiteral Literals literal_step literals_step

abbrev pub literals_in : LiteralList → Literals
literals_in = fold-LiteralList HwLiteral Literals literal_step literals_step

abbrev pub instance_of : Instance → HwInstance
instance_of i = record { name = i.name; inner_symbol = i.inner_symbol; symbol = i.symbol; inputs = i.inputs.items; outputs = i.outputs.items }

abbrev pub kind_of : OpKind → HwKind
kind_of kinds.Add = HwKind.variadic add
kind_of kinds.Mul = HwKind.variadic mul
kind_of kinds.And = HwKind.variadic and
kind_of kinds.Or = HwKind.variadic or
kind_of kinds.Xor = HwKind.variadic xor
kind_of kinds.Sub = HwKind.sub
kind_of kinds.Divu = HwKind.division divu
kind_of kinds.Modu = HwKind.division modu
kind_of kinds.Divs = HwKind.division divs
kind_of kinds.Mods = HwKind.division mods
kind_of kinds.Shl = HwKind.shift shl
kind_of kinds.Shru = HwKind.shift shru
kind_of kinds.Shrs = HwKind.shift shrs
kind_of (kinds.Icmp p) = HwKind.icmp (predicate_of p)
kind_of kinds.Parity = HwKind.parity
kind_of (kinds.Extract low) = HwKind.extract low
kind_of kinds.Concat = HwKind.concat
kind_of kinds.Replicate = HwKind.replicate
kind_of kinds.Mux = HwKind.mux
kind_of (kinds.Constant z) = HwKind.constant (integer_of z)
kind_of (kinds.AggregateConstant ls) = HwKind.aggregate_constant (literals_in ls)
kind_of kinds.ArrayCreate = HwKind.on_array array_create
kind_of kinds.ArrayConcat = HwKind.on_array array_concat
kind_of kinds.ArrayGet = HwKind.on_array array_get
kind_of kinds.ArraySlice = HwKind.on_array array_slice
kind_of kinds.ArrayInject = HwKind.on_array array_inject
kind_of kinds.StructCreate = HwKind.on_struct struct_create
kind_of (kinds.StructExtract name) = HwKind.on_struct (struct_extract name)
kind_of (kinds.StructInject name) = HwKind.on_struct (struct_inject name)
kind_of kinds.StructExplode = HwKind.on_struct struct_explode
kind_of kinds.Bitcast = HwKind.bitcast
kind_of kinds.Wire = HwKind.wire
kind_of (kinds.Instance i) = HwKind.instance (instance_of (box_value i))
kind_of kinds.Output = HwKind.output
kind_of (kinds.CompReg r) = HwKind.register compreg (reset_of r)
kind_of (kinds.CompRegCe r) = HwKind.register compreg_ce (reset_of r)
kind_of (kinds.FirReg r) = HwKind.register firreg (reset_of r)
kind_of kinds.AsyncFirReg = HwKind.async_firreg
