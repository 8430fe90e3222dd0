use Rattle.std.proofs.Common.{◌≡◌, false, map, take}
use Rattle.lowering_rules.specs.Reading.{new_refs}
use Rattle.lowering_rules.specs.LeafTables.{offset_ref}
use Rattle.lowering_rules.proofs.leaf_table.results_of_many.Given as goal

abbrev pub invariant-loop-offset : goal.invariant-loop-offset
invariant-loop-offset l = new_refs l.values.items ≡ map (offset_ref false l.start) (take l.offset-index l.offset-items)
