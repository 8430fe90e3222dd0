use Rattle.std.proofs.Common.{◌≡◌, ◌≤◌, drop, length}
use Rattle.mlir_operations.specs.ElementText.{elements_text}
use Rattle.mlir_operations.specs.Views.{gathered_of}
use Rattle.mlir_operations.proofs.element_text.elements_text.Given as goal

abbrev pub invariant-loop-element : goal.invariant-loop-element
invariant-loop-element l =
    (elements_text l.op l.elements (gathered_of l.fn.gathered) l.fn.reader ≡ elements_text l.op (drop l.element-index l.elements) (gathered_of l.gathered) l.reader)
    × (length l.reader ≤ length l.fn.reader)
