use Rattle.std.proofs.Common.{◌≡◌, ◌++◌, map}
use Rattle.std.specs.Option.{option_map}
use Rattle.hw_model.specs.TypeViews.{type_of}
use Rattle.ir_store.specs.OperationViews.{results_in}
use Rattle.mlir_reader.specs.Resolving.{marked_results}
use Rattle.mlir_reader.proofs.results.marked_results.Given as goal

abbrev pub invariant-loop-ty : goal.invariant-loop-ty
invariant-loop-ty l =
    results_in l.results ++ marked_results (map (option_map type_of) l.ty-iterator.rest.items) l.left
    ≡ marked_results (map (option_map type_of) l.fn.types.items) l.marks
