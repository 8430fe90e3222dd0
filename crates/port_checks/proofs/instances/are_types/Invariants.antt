use Rattle.std.proofs.Common.{◌≡◌, map, drop}
use Rattle.std.specs.Cmp.Lexicographic.{pointwise}
use Rattle.hw_model.specs.TypeViews.{type_of}
use Rattle.hw_model.specs.SameType.{same_type}
use Rattle.ir_store.specs.Designs.{port_of}
use Rattle.port_checks.specs.InstanceChecks.{port_types}
use Rattle.port_checks.proofs.instances.are_types.Given as goal

abbrev pub invariant-loop-port : goal.invariant-loop-port
invariant-loop-port l =
    pointwise same_type (map type_of l.types) (port_types l.out (map port_of l.ports))
    ≡ pointwise same_type (map type_of l.rest) (port_types l.out (map port_of (drop l.port-index l.ports)))
