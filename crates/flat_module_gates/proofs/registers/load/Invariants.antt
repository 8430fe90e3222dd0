use Rattle.std.proofs.Common.{take}
use Rattle.gates.specs.Circuits.{Runs}
use Rattle.net_gates.specs.RegisterGateLists.{load}
use Rattle.flat_module_gates.specs.FlatSteps.{known_bits}
use Rattle.flat_module_gates.proofs.registers.load.Given as goal

abbrev pub invariant-loop-position : goal.invariant-loop-position
invariant-loop-position l = Runs (load l.condition (known_bits (take l.position l.known)) (take l.position l.old)) l.fn.gates l.gates l.made.items
