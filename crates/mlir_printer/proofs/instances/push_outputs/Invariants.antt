use Rattle.std.proofs.Common.{◌≡◌, ◌++◌, drop, map}
use Rattle.hw_model.specs.TypeViews.{type_of}
use Rattle.mlir_printer.specs.Commas.{items_from, commas}
use Rattle.mlir_printer.specs.Elements.{output_bytes, outputs_joined}
use Rattle.mlir_printer.proofs.instances.push_outputs.Given as goal

abbrev pub invariant-loop-i : goal.invariant-loop-i
invariant-loop-i l =
    l.out ++ items_from output_bytes l.i (outputs_joined (drop l.i l.ports) (map type_of (drop l.i l.types)))
    ≡ l.initial.out ++ commas output_bytes (outputs_joined l.ports (map type_of l.types))
