use Rattle.std.proofs.Common.{◌++◌, ap, ◌∙◌, arith}
use Rattle.ir_store.specs.DictionaryViews.{attribute_of}
use Rattle.mlir_printer.specs.Attributes.{attribute_bytes}
use Rattle.mlir_printer.specs.Commas.{items_from}
use Rattle.mlir_printer.proofs.steps.Steps.{items_end, attributes_items}
use Rattle.mlir_printer.proofs.attributes.+attributes.Goals as goal

pub push_attributes-returns : goal.push_attributes-returns
push_attributes-returns t c =
    let items = c.args.attributes.now in
    items_end (λ x. attribute_bytes (attribute_of x)) c.loop-i.i items c.loop-i.i c.loop-i.out (c.args.out.now ++ items_from (λ x. attribute_bytes (attribute_of x)) 0 items)
    (omega (arith, c.loop-i-test.false)) c.loop-i.invariant
    ∙ ap (λ r. c.args.out.now ++ r) (attributes_items attribute_of 0 items)
