use Rattle.std.proofs.Common.{◌≡◌, ◌++◌, ◌-◌}
use Rattle.aggregate_laws.specs.Leaves.{in_row}
use Rattle.aggregate_laws.specs.Choices.{element_of}
use Rattle.lowering_rules.proofs.shapes.sizes_from.Given as goal

abbrev pub invariant-loop-leaf : goal.invariant-loop-leaf
invariant-loop-leaf l =
    l.sizes.items ++ in_row (λ i. l.length - element_of l.own l.element i) l.leaf (l.count - l.leaf) ≡ in_row (λ i. l.length - element_of l.own l.element i) 0 l.count
