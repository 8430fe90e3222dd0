use Rattle.std.proofs.Common.{◌≡◌, ◌++◌, map, drop}
use Rattle.std.specs.List.{flat_map}
use Rattle.ir_store.specs.Designs.{port_of, ports_in}
use Rattle.aggregate_laws.specs.Leaves.{leaf_ports}
use Rattle.lowering_rules.proofs.port_leaves.leaf_ports.Given as goal

abbrev pub invariant-loop-port : goal.invariant-loop-port
invariant-loop-port l = map port_of l.leaves.items ++ flat_map leaf_ports (map port_of (drop l.port-index l.port-items)) ≡ flat_map leaf_ports (ports_in l.ports)
