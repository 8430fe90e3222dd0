use Rattle.std.proofs.Common.{◌≡◌, ◌++◌, map, drop}
use Rattle.hw_model.specs.TypeViews.{type_of}
use Rattle.ir_store.specs.Designs.{port_of}
use Rattle.port_checks.specs.InstanceChecks.{port_types}
use Rattle.miter_blast.proofs.pair.types_of.Given as goal

abbrev pub invariant-loop-port : goal.invariant-loop-port
invariant-loop-port l =
    port_types l.out (map port_of l.port-items) ≡ map type_of l.types.items ++ port_types l.out (map port_of (drop l.port-index l.port-items))
