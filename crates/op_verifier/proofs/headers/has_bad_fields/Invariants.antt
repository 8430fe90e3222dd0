use Rattle.std.proofs.Common.{◌≡◌, map, drop}
use Rattle.ir_store.specs.Designs.{port_of}
use Rattle.op_checks.specs.TypeChecks.{has_bad_field}
use Rattle.op_verifier.specs.Headers.{has_port}
use Rattle.op_verifier.proofs.headers.has_bad_fields.Given as goal

abbrev pub invariant-loop-port : goal.invariant-loop-port
invariant-loop-port l = has_port (λ q. has_bad_field q.type) (map port_of l.ports) ≡ has_port (λ q. has_bad_field q.type) (map port_of (drop l.port-index l.ports))
