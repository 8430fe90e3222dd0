use Rattle.std.proofs.Common.{◌≡◌, ◌++◌, ◌-◌}
use Rattle.aggregate_laws.specs.Leaves.{in_row}
use Rattle.lowering_rules.proofs.shapes.in_turn.Given as goal

abbrev pub invariant-loop-offset : goal.invariant-loop-offset
invariant-loop-offset l = l.offsets.items ++ in_row (λ i. i) l.offset (l.count - l.offset) ≡ in_row (λ i. i) l.first l.leaves
