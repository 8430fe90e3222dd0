use Rattle.std.proofs.Common.{◌≡◌, take}
use Rattle.ir_store.specs.Bodies.{ops_of}
use Rattle.ir_store.specs.Numbered.{ops_by_position}
use Rattle.and_gates.specs.Clocks.{clock_ports}
use Rattle.and_gates.proofs.clocks.clock_ports.Given as goal

abbrev pub invariant-loop-position : goal.invariant-loop-position
invariant-loop-position l = l.ports.items ≡ clock_ports (take l.position (ops_by_position (ops_of l.ops.body.now)))
