use Rattle.std.proofs.Common.{◌≡◌, ◌++◌, drop}
use Rattle.ir_store.specs.DictionaryViews.{attribute_of}
use Rattle.mlir_printer.specs.Commas.{items_from}
use Rattle.mlir_printer.specs.Attributes.{attribute_bytes}
use Rattle.mlir_printer.proofs.attributes.+attributes.Given as goal

abbrev pub invariant-push_attributes-loop-i : goal.invariant-push_attributes-loop-i
invariant-push_attributes-loop-i l =
    l.out ++ items_from (λ x. attribute_bytes (attribute_of x)) l.i (drop l.i l.attributes) ≡ l.initial.out ++ items_from (λ x. attribute_bytes (attribute_of x)) 0 l.attributes
