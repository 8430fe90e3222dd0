-- A body with its ports as code goes through it: operations by positions.
use Rattle.std.specs.Prelude.{ℕ, List}
use Rattle.hw_model.specs.Design.{Ref, Port, Op}
use Rattle.ir_store.specs.declared.operation.Value.{Value}
use Rattle.ir_store.specs.declared.body.Op as body
use Rattle.ir_store.specs.Bodies.{ids_of, ops_of}
use Rattle.ir_store.specs.Designs.{ports_in}
use Rattle.ir_store.specs.Numbered.{position_of, ref_by, ops_by_position}
use Rattle.body_index.specs.OpIndexes.{op_view}
use Rattle.verilog_expr.specs.declared.scope.Scope.{Scope}

-- the ids of the operations
abbrev pub scope_ids : Scope → List ℕ
scope_ids s = ids_of s.ops.body.now

-- the operations, by positions
abbrev pub scope_ops : Scope → List Op
scope_ops s = ops_by_position (ops_of s.ops.body.now)

-- the ports
abbrev pub scope_ports : Scope → List Port
scope_ports s = ports_in s.ports.now

-- a value, by the position of its operation
abbrev pub scope_ref : Scope → Value → Ref
scope_ref s = ref_by (position_of (ids_of s.ops.body.now))

-- an operation that is read from the body
abbrev pub op_read : Scope → body.Op → Op
op_read s o = op_view s.ops.body.now o
