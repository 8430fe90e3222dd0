use Rattle.std.proofs.Common.{◌≡◌, ◌++◌, drop}
use Rattle.ir_store.specs.Bodies.{ops_of}
use Rattle.ir_store.specs.Numbered.{ops_by_position}
use Rattle.module_names.specs.ModuleNames.{register_names}
use Rattle.module_names.proofs.names.push_register_names.Given as goal

abbrev pub invariant-loop-position : goal.invariant-loop-position
invariant-loop-position l =
    l.names.items ++ register_names (drop l.position (ops_by_position (ops_of l.ops.body.now)))
    ≡ l.fn.names.items ++ register_names (ops_by_position (ops_of l.ops.body.now))
