use Rattle.std.proofs.Common.{◌≡◌, ◌++◌, map, length}
use Rattle.ir_store.specs.Designs.{module_of}
use Rattle.mlir_printer.specs.Texts.{stored_bytes}
use Rattle.mlir_printer.proofs.shared_text.push_and_drop.Given as goal

abbrev pub invariant-loop-one : goal.invariant-loop-one
invariant-loop-one l = record {
  text : l.out ++ stored_bytes (map module_of l.one-iterator.rest.items) ≡ l.initial.out ++ stored_bytes (map module_of l.fn.modules.items);
  left : l.one-iterator.rest.len ≡ length l.one-iterator.rest.items;
}
