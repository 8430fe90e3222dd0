use Rattle.std.proofs.Common.{◌≡◌, ◌++◌, drop}
use Rattle.ir_store.specs.Bodies.{ops_of}
use Rattle.ir_store.specs.Numbered.{ops_by_position}
use Rattle.flat_steps.specs.Tables.{register_positions}
use Rattle.flat_steps.proofs.plan.register_positions.Given as goal

abbrev pub invariant-loop-position : goal.invariant-loop-position
invariant-loop-position l =
    l.positions.items ++ register_positions l.position (drop l.position (ops_by_position (ops_of l.ops.body.now))) ≡ register_positions 0 (ops_by_position (ops_of l.ops.body.now))
