use Rattle.std.proofs.Common.{◌≡◌, ◌++◌, drop}
use Rattle.std.specs.Prelude.{codes}
use Rattle.hw_model.specs.TypeViews.{field_of}
use Rattle.mlir_printer.specs.Commas.{items_from}
use Rattle.mlir_printer.specs.Strings.{name_bytes}
use Rattle.mlir_printer.specs.Types.{type_bytes}
use Rattle.mlir_printer.proofs.types.+types.Given as goal

abbrev pub invariant-push_fields-loop-i : goal.invariant-push_fields-loop-i
invariant-push_fields-loop-i l =
    l.out ++ items_from (λ x. name_bytes (field_of x).name ++ (codes ": " ++ type_bytes (field_of x).type)) l.i (drop l.i l.fields)
    ≡ l.initial.out ++ items_from (λ x. name_bytes (field_of x).name ++ (codes ": " ++ type_bytes (field_of x).type)) 0 l.fields
