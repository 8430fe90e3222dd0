use Rattle.std.proofs.Common.{◌≡◌, ◌++◌, ◌-◌}
use Rattle.hw_model.specs.Design.Ref.{port}
use Rattle.aggregate_laws.specs.Leaves.{in_row}
use Rattle.lowering_rules.specs.Reading.{new_refs}
use Rattle.lowering_rules.proofs.leaf_table.ports_from.Given as goal

abbrev pub invariant-loop-number : goal.invariant-loop-number
invariant-loop-number l = new_refs l.values.items ++ in_row port l.number (l.end - l.number) ≡ in_row port l.first l.count
