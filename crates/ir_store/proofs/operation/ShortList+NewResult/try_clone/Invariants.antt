use Rattle.std.proofs.Common.{◌≡◌, take, map}
use Rattle.ir_store.specs.OperationViews.{result_of, results_in}
use Rattle.ir_store.specs.ShortLists.{short_items}
use Rattle.ir_store.proofs.operation.ShortList+NewResult.try_clone.Given as goal

abbrev pub invariant-loop-one : goal.invariant-loop-one
invariant-loop-one l = results_in l.copy ≡ map result_of (take l.one-index (short_items l.self))
