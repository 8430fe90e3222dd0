-- What a view of a module's ports and operations stands for.
use Rattle.std.specs.Prelude.{ℕ, List, map}
use Rattle.hw_model.specs.Design.{Ref, Port, Op}
use Rattle.ir_store.specs.declared.operation.Value.{Value}
use Rattle.ir_store.specs.Designs.{port_of}
use Rattle.ir_store.specs.BodyOps.{BodyOp, ids_in}
use Rattle.ir_store.specs.Numbered.{position_of, ref_by, op_by, ops_by_position}
use Rattle.op_verifier.specs.declared.body_view.BodyView.{BodyView}
use Rattle.op_verifier.specs.Entries.{op_in}

-- the operations with their ids
abbrev pub ops_viewed : BodyView → List BodyOp
ops_viewed v = map op_in v.entries.items

-- the ports
abbrev pub ports_viewed : BodyView → List Port
ports_viewed v = map port_of v.ports.now

-- the position of an id
abbrev pub position_viewed : BodyView → ℕ → ℕ
position_viewed v id = position_of (ids_in (ops_viewed v)) id

-- the operations by positions
abbrev pub body_viewed : BodyView → List Op
body_viewed v = ops_by_position (ops_viewed v)

-- an operand by positions
abbrev pub ref_viewed : BodyView → Value → Ref
ref_viewed v x = ref_by (position_viewed v) x

-- an operation by positions
abbrev pub op_viewed : BodyView → BodyOp → Op
op_viewed v o = op_by (position_viewed v) o
