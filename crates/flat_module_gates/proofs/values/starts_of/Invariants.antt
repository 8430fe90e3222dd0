use Rattle.std.proofs.Common.{◌≡◌, ◌++◌, drop}
use Rattle.ir_store.specs.Bodies.{ops_of}
use Rattle.ir_store.specs.Numbered.{ops_by_position}
use Rattle.flat_module_gates.specs.FlatGateLists.{starts_from}
use Rattle.flat_module_gates.proofs.values.starts_of.Given as goal

abbrev pub invariant-loop-position : goal.invariant-loop-position
invariant-loop-position l =
    starts_from 0 (ops_by_position (ops_of l.ops.body.now)) ≡ l.starts.items ++ starts_from l.start (drop l.position (ops_by_position (ops_of l.ops.body.now)))
