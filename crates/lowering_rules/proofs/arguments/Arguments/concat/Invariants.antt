use Rattle.std.proofs.Common.{◌≡◌, ◌++◌, map, drop}
use Rattle.aggregate_laws.specs.OperationRules.{joined_parts}
use Rattle.lowering_rules.specs.Reading.{new_refs}
use Rattle.lowering_rules.specs.LeafTables.{leaves_at, arguments_of}
use Rattle.lowering_rules.proofs.arguments.Arguments.concat.Given as goal

abbrev pub invariant-loop-operand : goal.invariant-loop-operand
invariant-loop-operand l = new_refs l.all.items ++ joined_parts (map (leaves_at l.self.table.now) (drop l.operand-index l.self.operands.now)) ≡ joined_parts (arguments_of l.self)
