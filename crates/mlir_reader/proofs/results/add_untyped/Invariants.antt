use Rattle.std.proofs.Common.{◌≡◌, [], ◌++◌, drop}
use Rattle.ir_store.specs.OperationViews.{results_in}
use Rattle.mlir_reader.specs.Resolving.{marked_results}
use Rattle.mlir_reader.proofs.results.add_untyped.Given as goal

abbrev pub invariant-loop-again : goal.invariant-loop-again
invariant-loop-again l = results_in l.results ++ marked_results [] (drop l.again-index l.marks) ≡ results_in l.fn.results ++ marked_results [] l.marks
