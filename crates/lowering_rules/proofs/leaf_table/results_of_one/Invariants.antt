use Rattle.std.proofs.Common.{◌≡◌, true, map, take}
use Rattle.lowering_rules.specs.Reading.{new_refs}
use Rattle.lowering_rules.specs.LeafTables.{offset_ref}
use Rattle.lowering_rules.proofs.leaf_table.results_of_one.Given as goal

abbrev pub invariant-loop-offset : goal.invariant-loop-offset
invariant-loop-offset l = new_refs l.values.items ≡ map (offset_ref true l.start) (take l.offset-index l.offset-items)
