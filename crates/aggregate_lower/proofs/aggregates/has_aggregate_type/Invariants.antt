use Rattle.std.proofs.Common.{◌≡◌, map, drop}
use Rattle.ir_store.specs.OperationViews.{result_of, results_in}
use Rattle.ir_store.specs.ShortLists.{short_items}
use Rattle.aggregate_laws.specs.Scalars.{has_aggregate_type}
use Rattle.aggregate_lower.proofs.aggregates.has_aggregate_type.Given as goal

abbrev pub invariant-loop-one : goal.invariant-loop-one
invariant-loop-one l = has_aggregate_type (map result_of (drop l.one-index (short_items l.results))) ≡ has_aggregate_type (results_in l.results)
