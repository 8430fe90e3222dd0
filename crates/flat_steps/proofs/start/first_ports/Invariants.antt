use Rattle.std.proofs.Common.{◌≡◌, map, take}
use Rattle.ir_store.specs.Designs.{port_of}
use Rattle.flat_steps.specs.Steps.{first_ports}
use Rattle.flat_steps.proofs.start.first_ports.Given as goal

abbrev pub invariant-loop-port : goal.invariant-loop-port
invariant-loop-port l = l.words.items ≡ first_ports (map port_of (take l.port-index l.port-items))
