use Rattle.std.proofs.Common.{◌≡◌, ◌++◌, drop}
use Rattle.mlir_printer.specs.Elements.{elements_bytes}
use Rattle.mlir_printer.specs.Operations.{left_after_all}
use Rattle.mlir_printer.specs.Views.{pending_of}
use Rattle.mlir_printer.proofs.elements.push_elements.Given as goal

abbrev pub invariant-loop-element : goal.invariant-loop-element
invariant-loop-element l = record {
  bytes : l.out ++ elements_bytes (drop l.element-index l.elements) (pending_of l.names l.left) ≡ l.initial.out ++ elements_bytes l.elements (pending_of l.names l.initial.left);
  left : left_after_all (drop l.element-index l.elements) (pending_of l.names l.left) ≡ left_after_all l.elements (pending_of l.names l.initial.left);
}
