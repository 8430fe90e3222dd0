use Rattle.std.proofs.Common.{◌≡◌, ◌+◌, ◌-◌, ◌++◌, drop}
use Rattle.mlir_printer.specs.Commas.{items_from, commas}
use Rattle.mlir_printer.specs.Elements.{value_name_bytes}
use Rattle.mlir_printer.specs.Naming.{firsts}
use Rattle.mlir_printer.specs.Views.{names_held}
use Rattle.mlir_printer.proofs.operations.push_listed.Given as goal

abbrev pub invariant-loop-i : goal.invariant-loop-i
invariant-loop-i l =
    l.out ++ items_from value_name_bytes l.i (firsts (l.count - l.i) (drop (l.first + l.i) (names_held l.names)))
    ≡ l.initial.out ++ commas value_name_bytes (firsts l.count (drop l.first (names_held l.names)))
