use Rattle.std.proofs.Common.{◌≡◌, ◌++◌, drop, map}
use Rattle.ir_store.specs.Designs.{port_of, ports_in}
use Rattle.flat_steps.specs.Tables.{input_places}
use Rattle.flat_steps.proofs.plan.input_places.Given as goal

abbrev pub invariant-loop-port : goal.invariant-loop-port
invariant-loop-port l = l.places.items ++ input_places l.place (map port_of (drop l.port-index l.port-items)) ≡ input_places 0 (ports_in l.ports)
