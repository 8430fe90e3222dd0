use Rattle.std.proofs.Common.{◌≡◌, ◌++◌, map, drop}
use Rattle.ir_store.specs.Designs.{port_of, ports_in}
use Rattle.lowering_rules.specs.LeafTables.{refs_in, port_table}
use Rattle.lowering_rules.proofs.leaf_table.port_leaves.Given as goal

abbrev pub invariant-loop-port : goal.invariant-loop-port
invariant-loop-port l = refs_in l.all.items ++ port_table l.next (map port_of (drop l.port-index l.port-items)) ≡ port_table 0 (ports_in l.ports)
