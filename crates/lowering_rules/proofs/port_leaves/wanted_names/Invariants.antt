use Rattle.std.proofs.Common.{◌≡◌, ◌++◌, map, drop}
use Rattle.ir_store.specs.Designs.{port_of, ports_in}
use Rattle.aggregate_laws.specs.LeafPorts.{wanted_names}
use Rattle.lowering_rules.proofs.port_leaves.wanted_names.Given as goal

abbrev pub invariant-loop-port : goal.invariant-loop-port
invariant-loop-port l = l.names.items ++ wanted_names (map port_of (drop l.port-index l.port-items)) ≡ wanted_names (ports_in l.ports)
