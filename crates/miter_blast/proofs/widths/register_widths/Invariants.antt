use Rattle.std.proofs.Common.{◌≡◌, take}
use Rattle.ir_store.specs.Bodies.{ops_of}
use Rattle.ir_store.specs.Numbered.{ops_by_position}
use Rattle.miter_blast.specs.Leaves.{held_widths}
use Rattle.miter_blast.proofs.widths.register_widths.Given as goal

abbrev pub invariant-loop-position : goal.invariant-loop-position
invariant-loop-position l = l.widths.items ≡ held_widths (take l.position (ops_by_position (ops_of l.ops.body.now)))
