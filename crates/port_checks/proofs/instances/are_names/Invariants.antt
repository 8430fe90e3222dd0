use Rattle.std.proofs.Common.{◌≡◌, map, drop}
use Rattle.std.specs.Cmp.Lexicographic.{pointwise}
use Rattle.hw_model.specs.Design.{same_name}
use Rattle.ir_store.specs.Designs.{port_of}
use Rattle.port_checks.specs.InstanceChecks.{port_names}
use Rattle.port_checks.proofs.instances.are_names.Given as goal

abbrev pub invariant-loop-port : goal.invariant-loop-port
invariant-loop-port l =
    pointwise same_name l.names (port_names l.out (map port_of l.ports))
    ≡ pointwise same_name l.rest (port_names l.out (map port_of (drop l.port-index l.ports)))
