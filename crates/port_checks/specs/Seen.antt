-- Operations as what is asked of ports sees them: an operand that is a result is told by its operation's id.
use Rattle.std.specs.Prelude.{ℕ}
use Rattle.hw_model.specs.Design as hw
use Rattle.ir_store.specs.declared.operation.Value.{Value}
use Rattle.ir_store.specs.declared.body.Op.{Op}
use Rattle.ir_store.specs.Bodies.{op_id, read_op}
use Rattle.ir_store.specs.BodyOps.{BodyOp}
use Rattle.ir_store.specs.Numbered.{ref_by, op_by}

-- the position that stands for an id: the id's own number
abbrev pub own_number : ℕ → ℕ
own_number n = n

-- an operand
abbrev pub ref_seen : Value → hw.Ref
ref_seen v = ref_by own_number v

-- an operation of a body
abbrev pub body_op_seen : BodyOp → hw.Op
body_op_seen o = op_by own_number o

-- an operation that is read
abbrev pub op_seen : Op → hw.Op
op_seen o = body_op_seen (read_op (op_id 0) o)
