use Rattle.std.proofs.Common.{◌≡◌, map, drop}
use Rattle.ir_store.specs.Designs.{port_of}
use Rattle.op_checks.specs.TypeChecks.{is_outside}
use Rattle.op_verifier.specs.Headers.{has_port}
use Rattle.op_verifier.proofs.headers.has_outside.Given as goal

abbrev pub invariant-loop-port : goal.invariant-loop-port
invariant-loop-port l = has_port (λ q. is_outside q.type) (map port_of l.ports) ≡ has_port (λ q. is_outside q.type) (map port_of (drop l.port-index l.ports))
