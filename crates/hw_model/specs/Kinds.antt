-- The kinds of operations of the hw, comb and seq dialects, with the attributes that decide what they do
-- (CIRCT: operation references of the HW, Comb and Seq dialects).
use Rattle.std.specs.Prelude.{ℕ, ℤ, List, Option}
use Rattle.hw_model.specs.Types.{Name, HwType}

-- the predicates of comb.icmp; `ceq` and `weq` mean `eq`, `cne` and `wne` mean `ne` over values of two states
pub data Predicate : Type 0 where
  eq ne slt sle sgt sge ult ule ugt uge ceq cne weq wne : Predicate

-- what resets a register
pub data Reset : Type 0 where
  no_reset sync_reset : Reset

mutual
  -- a constant of an aggregate type: numbers of stated types, or lists of parts
  pub data Literal : Type 0 where
    leaf : ℤ → HwType → Literal
    parts : Literals → Literal

  pub data Literals : Type 0 where
    no_literals : Literals
    literal : Literal → Literals → Literals

-- an instance: its name, its inner symbol, its module's symbol, the names that it gives to the inputs and outputs
pub record Instance : Type 0 where
  pub name : Name
  pub inner_symbol : Option Name
  pub symbol : Name
  pub inputs : List Name
  pub outputs : List Name

-- comb operations of any number of operands of one type, from one on (CIRCT, Comb dialect: variadic operations)
pub data Variadic : Type 0 where
  add mul and or xor : Variadic

-- quotients and remainders, without and with sign (CIRCT, Comb dialect: comb.divu, comb.modu, comb.divs, comb.mods)
pub data Division : Type 0 where
  divu modu divs mods : Division

-- shifts to the left, to the right, and to the right with the sign (CIRCT, Comb dialect: comb.shl, comb.shru, comb.shrs)
pub data Shift : Type 0 where
  shl shru shrs : Shift

-- operations on arrays (CIRCT, HW dialect: hw.array_create and its like)
pub data ArrayOp : Type 0 where
  array_create array_concat array_get array_slice array_inject : ArrayOp

-- operations on structs, with the name of a field (CIRCT, HW dialect: hw.struct_create and its like)
pub data StructOp : Type 0 where
  struct_create struct_explode : StructOp
  struct_extract struct_inject : Name → StructOp

-- registers (CIRCT, Seq dialect: seq.compreg, seq.compreg.ce, seq.firreg)
pub data RegisterOp : Type 0 where
  compreg compreg_ce firreg : RegisterOp

-- the kinds of operations, by families
pub data Kind : Type 0 where
  variadic : Variadic → Kind
  sub : Kind
  division : Division → Kind
  shift : Shift → Kind
  icmp : Predicate → Kind
  parity : Kind
  extract : ℕ → Kind
  concat replicate mux : Kind
  constant : ℤ → Kind
  aggregate_constant : Literals → Kind
  on_array : ArrayOp → Kind
  on_struct : StructOp → Kind
  bitcast wire : Kind
  instance : Instance → Kind
  output : Kind
  register : RegisterOp → Reset → Kind
  -- a register that a signal resets without its clock (CIRCT, Seq dialect: `seq.firreg` with `reset async`)
  async_firreg : Kind
