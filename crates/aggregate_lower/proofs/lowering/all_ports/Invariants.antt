use Rattle.std.proofs.Common.{◌≡◌, map, take}
use Rattle.ir_store.specs.Designs.{design_of, ports_in}
use Rattle.lowering_rules.specs.Callees.{module_leaves}
use Rattle.aggregate_lower.proofs.lowering.all_ports.Given as goal

abbrev pub invariant-loop-number : goal.invariant-loop-number
invariant-loop-number l = map ports_in l.all.items ≡ map module_leaves (take l.number (design_of l.design))
