use Rattle.std.proofs.Common.{◌≡◌, drop}
use Rattle.ir_store.specs.Bodies.{ops_of}
use Rattle.ir_store.specs.Numbered.{ops_by_position}
use Rattle.and_gates.specs.Clocks.{has_async}
use Rattle.and_gates.proofs.clocks.has_async.Given as goal

abbrev pub invariant-loop-position : goal.invariant-loop-position
invariant-loop-position l = has_async (ops_by_position (ops_of l.ops.body.now)) ≡ has_async (drop l.position (ops_by_position (ops_of l.ops.body.now)))
