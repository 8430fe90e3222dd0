use Rattle.std.proofs.Common.{◌≡◌, ◌++◌, map, drop}
use Rattle.ir_store.specs.Designs.{port_of}
use Rattle.port_checks.specs.InstanceChecks.{port_names}
use Rattle.lowering_rules.proofs.instances.port_names.Given as goal

abbrev pub invariant-loop-port : goal.invariant-loop-port
invariant-loop-port l = l.names.items ++ port_names l.out (map port_of (drop l.port-index l.ports)) ≡ port_names l.out (map port_of l.ports)
