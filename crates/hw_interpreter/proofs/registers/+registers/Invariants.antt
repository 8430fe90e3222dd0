use Rattle.std.proofs.Common.{◌≡◌, ◌+◌, ◌*◌, ◌++◌, drop, map, length}
use Rattle.hw_model.specs.Flat.{instances, module_registers, body_registers}
use Rattle.hw_interpreter.specs.DesignViews.{op_of, module_of}
use Rattle.hw_interpreter.specs.Registers.{slot_of}
use Rattle.hw_interpreter.proofs.registers.+registers.Given as goal

abbrev pub decreases-push_module : goal.decreases-push_module
decreases-push_module l = 3 * l.depth

abbrev pub decreases-push_operation : goal.decreases-push_operation
decreases-push_operation l = 3 * l.depth + 1

abbrev pub decreases-push_body : goal.decreases-push_body
decreases-push_body l = 3 * l.depth + 2

abbrev pub invariant-push_body-loop-operation : goal.invariant-push_body-loop-operation
invariant-push_body-loop-operation l = record {
  put :
      map slot_of l.slots.items ++ body_registers (module_registers l.depth (map module_of l.modules)) l.path l.number (map op_of (drop l.operation-index l.body))
      ≡ map slot_of l.fn.slots.items ++ body_registers (module_registers l.depth (map module_of l.modules)) l.path 0 (map op_of l.body);
  count : l.number + length (instances (map op_of (drop l.operation-index l.body))) ≡ length (instances (map op_of l.body));
}
