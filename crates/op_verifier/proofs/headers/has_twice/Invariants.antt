use Rattle.std.proofs.Common.{◌≡◌, map, drop, [], Bor, List, ℕ}
use Rattle.ir_store.specs.Designs.{port_of}
use Rattle.hw_model.specs.Design.{Port}
use Rattle.op_verifier.specs.Headers.{has_seen}
use Rattle.op_verifier.proofs.headers.has_twice.Given as goal

abbrev pub invariant-loop-port : goal.invariant-loop-port
invariant-loop-port l =
    has_seen [] (map (λ (q : Port). q.name) (map port_of l.ports))
    ≡ has_seen (map (λ (k : Bor (List ℕ)). k.now) l.seen.keys) (map (λ (q : Port). q.name) (map port_of (drop l.port-index l.ports)))
