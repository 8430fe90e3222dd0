use Rattle.std.proofs.Common.{◌≡◌, map, drop}
use Rattle.ir_store.specs.Designs.{port_of}
use Rattle.op_verifier.specs.Headers.{has_port, has_wrong_clock}
use Rattle.op_verifier.proofs.headers.has_wrong_clocks.Given as goal

abbrev pub invariant-loop-port : goal.invariant-loop-port
invariant-loop-port l = has_port has_wrong_clock (map port_of l.ports) ≡ has_port has_wrong_clock (map port_of (drop l.port-index l.ports))
