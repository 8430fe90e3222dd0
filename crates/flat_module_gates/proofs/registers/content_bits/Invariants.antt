use Rattle.std.proofs.Common.{◌≡◌, take}
use Rattle.ir_store.specs.Bodies.{ops_of}
use Rattle.ir_store.specs.Numbered.{ops_by_position}
use Rattle.flat_module_gates.specs.FlatSteps.{content_width}
use Rattle.flat_module_gates.proofs.registers.content_bits.Given as goal

abbrev pub invariant-loop-position : goal.invariant-loop-position
invariant-loop-position l = l.bits ≡ content_width (take l.position (ops_by_position (ops_of l.ops.body.now)))
