-- An operation that is read from a body, as definitions speak of it.
use Rattle.hw_model.specs.Design as hw
use Rattle.ir_store.specs.declared.body.Body.{Body}
use Rattle.ir_store.specs.declared.body.Op.{Op}
use Rattle.ir_store.specs.Bodies.{ids_of, op_id, read_op}
use Rattle.ir_store.specs.Numbered.{position_of, op_by}

-- an operation of a body, its operands by the positions of their operations
abbrev pub op_view : Body → Op → hw.Op
op_view b o = op_by (position_of (ids_of b)) (read_op (op_id 0) o)
