use Rattle.std.proofs.Common.{◌≡◌, ◌++◌, drop}
use Rattle.mlir_printer.specs.Commas.{items_from}
use Rattle.mlir_printer.specs.Elements.{operand_bytes}
use Rattle.mlir_printer.specs.Views.{value_held}
use Rattle.mlir_printer.proofs.elements.push_operands.Given as goal

abbrev pub invariant-loop-i : goal.invariant-loop-i
invariant-loop-i l =
    l.out ++ items_from (λ x. operand_bytes (value_held l.names x)) l.i (drop l.i l.operands) ≡ l.initial.out ++ items_from (λ x. operand_bytes (value_held l.names x)) 0 l.operands
