use Rattle.std.proofs.Common.{◌≡◌, ◌++◌, map, drop}
use Rattle.hw_model.specs.TypeViews.{type_of}
use Rattle.ir_store.specs.Designs.{port_of}
use Rattle.aggregate_laws.specs.Leaves.{leaf_port}
use Rattle.lowering_rules.proofs.port_leaves.push_typed_ports.Given as goal

abbrev pub invariant-loop-ty : goal.invariant-loop-ty
invariant-loop-ty l =
    map port_of l.leaves.items ++ map (leaf_port l.out) (map type_of (drop l.ty-index l.types)) ≡ map port_of l.fn.leaves.items ++ map (leaf_port l.out) (map type_of l.types)
