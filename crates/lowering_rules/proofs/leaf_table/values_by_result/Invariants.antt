use Rattle.std.proofs.Common.{◌≡◌, ◌++◌, map, drop}
use Rattle.ir_store.specs.OperationViews.{result_of, results_in}
use Rattle.ir_store.specs.ShortLists.{short_items}
use Rattle.lowering_rules.specs.Reading.{new_refs}
use Rattle.lowering_rules.specs.LeafTables.{refs_in, divided}
use Rattle.lowering_rules.proofs.leaf_table.values_by_result.Given as goal

abbrev pub invariant-loop-one : goal.invariant-loop-one
invariant-loop-one l =
    refs_in l.all.items ++ divided (map result_of (drop l.one-index (short_items l.results))) (new_refs l.rest) ≡ divided (results_in l.results) (new_refs l.values)
