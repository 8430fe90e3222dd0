use Rattle.std.proofs.Common.{◌≡◌, ◌++◌, map}
use Rattle.ir_store.specs.Bodies.{ids_of, ids_left, op_id}
use Rattle.design_cycles.proofs.ops.read_ids.Given as goal

abbrev pub invariant-loop-id : goal.invariant-loop-id
invariant-loop-id l = l.ids.items ++ ids_left l.id-iterator ≡ map op_id (ids_of l.body)
