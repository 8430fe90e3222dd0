-- The listed operations: their names, and the one of a name.
use Rattle.std.specs.Prelude.{ℕ, List, [], ◌∷◌, Option, None, Some, nat_eq, codes, if◌then◌else◌}
use Rattle.std.specs.Cmp.Lexicographic.{pointwise}
use Rattle.opcode.specs.declared.listed.Listed.{Listed}
use Rattle.opcode.specs.declared.listed.Listed.TheVariants.{HwModule, CombAdd, CombMul, CombAnd, CombOr, CombXor, CombSub, CombDivu, CombModu, CombDivs, CombMods, CombShl, CombShru, CombShrs}
use Rattle.opcode.specs.declared.listed.Listed.TheVariants.{CombIcmp, CombParity, CombExtract, CombConcat, CombReplicate, CombMux, HwConstant, HwAggregateConstant, HwArrayCreate, HwArrayConcat}
use Rattle.opcode.specs.declared.listed.Listed.TheVariants.{HwArrayGet, HwArraySlice, HwArrayInject, HwStructCreate, HwStructExtract, HwStructInject, HwStructExplode, HwBitcast, HwWire, HwInstance}
use Rattle.opcode.specs.declared.listed.Listed.TheVariants.{HwOutput, SeqCompreg, SeqCompregCe, SeqFirreg}

-- the name of an operation (CIRCT's operation references of hw, comb and seq)
unfoldable pub name_of_listed : Listed → List ℕ
name_of_listed HwModule = codes "hw.module"
name_of_listed CombAdd = codes "comb.add"
name_of_listed CombMul = codes "comb.mul"
name_of_listed CombAnd = codes "comb.and"
name_of_listed CombOr = codes "comb.or"
name_of_listed CombXor = codes "comb.xor"
name_of_listed CombSub = codes "comb.sub"
name_of_listed CombDivu = codes "comb.divu"
name_of_listed CombModu = codes "comb.modu"
name_of_listed CombDivs = codes "comb.divs"
name_of_listed CombMods = codes "comb.mods"
name_of_listed CombShl = codes "comb.shl"
name_of_listed CombShru = codes "comb.shru"
name_of_listed CombShrs = codes "comb.shrs"
name_of_listed CombIcmp = codes "comb.icmp"
name_of_listed CombParity = codes "comb.parity"
name_of_listed CombExtract = codes "comb.extract"
name_of_listed CombConcat = codes "comb.concat"
name_of_listed CombReplicate = codes "comb.replicate"
name_of_listed CombMux = codes "comb.mux"
name_of_listed HwConstant = codes "hw.constant"
name_of_listed HwAggregateConstant = codes "hw.aggregate_constant"
name_of_listed HwArrayCreate = codes "hw.array_create"
name_of_listed HwArrayConcat = codes "hw.array_concat"
name_of_listed HwArrayGet = codes "hw.array_get"
name_of_listed HwArraySlice = codes "hw.array_slice"
name_of_listed HwArrayInject = codes "hw.array_inject"
name_of_listed HwStructCreate = codes "hw.struct_create"
name_of_listed HwStructExtract = codes "hw.struct_extract"
name_of_listed HwStructInject = codes "hw.struct_inject"
name_of_listed HwStructExplode = codes "hw.struct_explode"
name_of_listed HwBitcast = codes "hw.bitcast"
name_of_listed HwWire = codes "hw.wire"
name_of_listed HwInstance = codes "hw.instance"
name_of_listed HwOutput = codes "hw.output"
name_of_listed SeqCompreg = codes "seq.compreg"
name_of_listed SeqCompregCe = codes "seq.compreg.ce"
name_of_listed SeqFirreg = codes "seq.firreg"

-- the first operation of a list that has this name
abbrev pub first_named : List ℕ → List Listed → Option Listed
first_named name [] = None
first_named name (listed ∷ others) = if pointwise nat_eq (name_of_listed listed) name then Some listed else first_named name others

-- every listed operation (CIRCT's operation references of hw, comb and seq)
abbrev pub listed_operations : List Listed
listed_operations =
    HwModule ∷ CombAdd ∷ CombMul ∷ CombAnd ∷ CombOr ∷ CombXor ∷ CombSub ∷ CombDivu ∷ CombModu ∷ CombDivs ∷ CombMods ∷ CombShl ∷ CombShru ∷ CombShrs ∷ CombIcmp ∷ CombParity ∷ CombExtract
    ∷ CombConcat ∷ CombReplicate ∷ CombMux ∷ HwConstant ∷ HwAggregateConstant ∷ HwArrayCreate ∷ HwArrayConcat ∷ HwArrayGet ∷ HwArraySlice ∷ HwArrayInject ∷ HwStructCreate ∷ HwStructExtract
    ∷ HwStructInject ∷ HwStructExplode ∷ HwBitcast ∷ HwWire ∷ HwInstance ∷ HwOutput ∷ SeqCompreg ∷ SeqCompregCe ∷ SeqFirreg ∷ []
