use Rattle.std.proofs.Common.{◌≡◌, ◌++◌, drop, map}
use Rattle.hw_model.specs.TypeViews.{type_of}
use Rattle.mlir_printer.specs.Commas.{items_from, commas}
use Rattle.mlir_printer.specs.Elements.{input_bytes, inputs_joined}
use Rattle.mlir_printer.specs.Views.{value_held}
use Rattle.mlir_printer.proofs.instances.push_inputs.Given as goal

abbrev pub invariant-loop-i : goal.invariant-loop-i
invariant-loop-i l =
    l.out ++ items_from input_bytes l.i (inputs_joined (drop l.i l.ports) (map (value_held l.names) (drop l.i l.operands)) (map type_of (drop l.i l.types)))
    ≡ l.initial.out ++ commas input_bytes (inputs_joined l.ports (map (value_held l.names) l.operands) (map type_of l.types))
