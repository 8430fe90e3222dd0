-- The operations of a body by positions.
use Rattle.std.specs.Prelude.{ℕ, suc, cond, nat_eq, List, [], ◌∷◌, map}
use Rattle.hw_model.specs.Design.{Op, Ref}
use Rattle.hw_model.specs.Design.Ref.{port, result, undefined}
use Rattle.ir_store.specs.declared.operation.Value.{Value}
use Rattle.ir_store.specs.declared.operation.Value.TheVariants.{Port, Result, Undefined}
use Rattle.ir_store.specs.BodyOps.{BodyOp, ids_in}

-- the position of an id among ids; of one that is not there, their number
abbrev pub position_of : List ℕ → ℕ → ℕ
position_of [] id = 0
position_of (i ∷ ids) id = cond (nat_eq i id) 0 (suc (position_of ids id))

-- an operand, where the positions of ids are told
abbrev pub ref_by : (ℕ → ℕ) → Value → Ref
ref_by position (Port n) = port n
ref_by position (Result id k) = result (position id.index) k
ref_by position Undefined = undefined

-- an operation, where the positions of ids are told
abbrev pub op_by : (ℕ → ℕ) → BodyOp → Op
op_by position o = record {
  kind = o.parts.kind;
  operands = map (ref_by position) o.operands;
  types = o.parts.types;
  results = o.parts.results;
  named = o.parts.named;
  name = o.parts.name;
  dictionary = o.parts.dictionary;
  bin = o.parts.bin;
  location = o.parts.location;
}

-- the operations by positions
abbrev pub ops_by_position : List BodyOp → List Op
ops_by_position ops = map (op_by (position_of (ids_in ops))) ops
