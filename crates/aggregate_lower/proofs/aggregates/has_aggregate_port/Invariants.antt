use Rattle.std.proofs.Common.{◌≡◌, map, drop}
use Rattle.ir_store.specs.Designs.{port_of, ports_in}
use Rattle.aggregate_laws.specs.Scalars.{has_aggregate_port}
use Rattle.aggregate_lower.proofs.aggregates.has_aggregate_port.Given as goal

abbrev pub invariant-loop-port : goal.invariant-loop-port
invariant-loop-port l = has_aggregate_port (map port_of (drop l.port-index l.port-items)) ≡ has_aggregate_port (ports_in l.ports)
