use Rattle.std.proofs.Common.{◌≡◌, take, drop, []}
use Rattle.op_verifier.specs.Headers.{has_seen}
use Rattle.op_verifier.proofs.Names.{names_of}
use Rattle.op_verifier.proofs.headers.has_twice_among_few.Given as goal

abbrev pub invariant-loop-position : goal.invariant-loop-position
invariant-loop-position l = has_seen [] (names_of l.ports) ≡ has_seen (names_of (take l.position l.ports)) (names_of (drop l.position l.ports))
