use Rattle.std.proofs.Common.{◌≡◌, ◌++◌, map, drop}
use Rattle.std.specs.List.{flat_map}
use Rattle.hw_model.specs.Types.{leaves}
use Rattle.hw_model.specs.TypeViews.{type_of}
use Rattle.hw_model.specs.Design.{OpResult}
use Rattle.ir_store.specs.OperationViews.{result_of, results_in}
use Rattle.ir_store.specs.ShortLists.{short_items}
use Rattle.lowering_rules.proofs.written_types.result_leaves.Given as goal

abbrev pub invariant-loop-one : goal.invariant-loop-one
invariant-loop-one l =
    map type_of l.types.items ++ flat_map leaves (map (λ (x : OpResult). x.type) (map result_of (drop l.one-index (short_items l.op.results.now)))) ≡ flat_map leaves (map (λ (x : OpResult). x.type) (results_in l.op.results.now))
