-- A body in code as the list of operations that the table of folds speaks of (MLIR language reference: values, operations).
use Rattle.std.specs.Prelude.{ℕ, List, map, Contains}
use Rattle.hw_model.specs.KindViews.{kind_of}
use Rattle.hw_model.specs.Design.{Ref, Op}
use Rattle.ir_store.specs.declared.body.Body.{Body}
use Rattle.ir_store.specs.declared.body.Op.{Op as ReadOp}
use Rattle.ir_store.specs.DictionaryViews.{entries_in}
use Rattle.ir_store.specs.OperationViews.{types_in, results_in, location_of}
use Rattle.ir_store.specs.declared.operation.OpId.{OpId}
use Rattle.ir_store.specs.declared.operation.Value.{Value}
use Rattle.ir_store.specs.Bodies.{ids_of, ops_of}
use Rattle.ir_store.specs.Numbered.{position_of, ref_by, ops_by_position}

-- the operations by positions
unfoldable pub body_ops : Body → List Op
body_ops b = ops_by_position (ops_of b)

-- the position of an operation
unfoldable pub position_in : Body → OpId → ℕ
position_in b id = position_of (ids_of b) id.index

-- a value by positions
unfoldable pub value_ref : Body → Value → Ref
value_ref b v = ref_by (position_of (ids_of b)) v

-- an operation that is read, by positions
abbrev pub op_seen : Body → ReadOp → Op
op_seen b o = record {
  kind = kind_of o.kind.now;
  operands = map (value_ref b) o.operands.now;
  types = types_in o.types.now;
  results = results_in o.results.now;
  named = o.named;
  name = o.name.now;
  dictionary = entries_in o.dictionary.now;
  bin = o.bin;
  location = location_of o.location;
}

-- the body has an operation of this id
abbrev pub HasOp : Body → OpId → Type 0
HasOp b id = Contains (ids_of b) id.index
