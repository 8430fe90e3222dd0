use Rattle.std.proofs.Common.{◌≡◌, map, drop}
use Rattle.ir_store.specs.OperationViews.{result_of}
use Rattle.op_verifier.specs.OpChecks.{has_again}
use Rattle.op_verifier.proofs.operations.has_again.Given as goal

abbrev pub invariant-loop-one : goal.invariant-loop-one
invariant-loop-one l = has_again (map result_of l.results) ≡ has_again (map result_of (drop l.one-index l.results))
