use Rattle.std.proofs.Common.{◌≡◌, min, take}
use Rattle.hw_model.specs.Weight.{leaf_count}
use Rattle.design_cycles.proofs.Sizing.{port_types}
use Rattle.design_cycles.proofs.size.port_leaves.Given as goal

abbrev pub invariant-loop-port : goal.invariant-loop-port
invariant-loop-port l = l.sum ≡ min (leaf_count (port_types (take l.port-index l.port-items))) 18446744073709551615
