use Rattle.std.proofs.Common.{◌≡◌, drop}
use Rattle.op_verifier.specs.Headers.{is_among}
use Rattle.op_verifier.proofs.Names.{names_of}
use Rattle.op_verifier.proofs.headers.is_named.Given as goal

abbrev pub invariant-loop-port : goal.invariant-loop-port
invariant-loop-port l = is_among l.name (names_of l.ports) ≡ is_among l.name (names_of (drop l.port-index l.ports))
