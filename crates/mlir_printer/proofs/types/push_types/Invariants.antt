use Rattle.std.proofs.Common.{◌≡◌, ◌++◌, drop}
use Rattle.hw_model.specs.TypeViews.{type_of}
use Rattle.mlir_printer.specs.Commas.{items_from}
use Rattle.mlir_printer.specs.Types.{type_bytes}
use Rattle.mlir_printer.proofs.types.push_types.Given as goal

abbrev pub invariant-loop-i : goal.invariant-loop-i
invariant-loop-i l = l.out ++ items_from (λ x. type_bytes (type_of x)) l.i (drop l.i l.types) ≡ l.initial.out ++ items_from (λ x. type_bytes (type_of x)) 0 l.types
