use Rattle.std.proofs.Common.{◌≡◌, take, map}
use Rattle.ir_store.specs.Designs.{port_of}
use Rattle.ir_store.proofs.design.PortList.try_clone.Given as goal

abbrev pub invariant-loop-port : goal.invariant-loop-port
invariant-loop-port l = map port_of l.ports.items ≡ map port_of (take l.port-index l.port-items)
