use Rattle.std.proofs.Common.{◌≡◌, ◌++◌, map, drop}
use Rattle.ir_store.specs.Designs.{port_of}
use Rattle.aggregate_laws.specs.LeafPorts.{with_names}
use Rattle.lowering_rules.proofs.port_leaves.with_names.Given as goal

abbrev pub invariant-loop-port : goal.invariant-loop-port
invariant-loop-port l = map port_of l.named.items ++ with_names l.rest (map port_of (drop l.port-index l.ports)) ≡ with_names l.names (map port_of l.ports)
