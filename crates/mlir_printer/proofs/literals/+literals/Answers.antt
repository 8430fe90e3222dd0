use Rattle.std.proofs.Common.{◌++◌, ap, ◌∙◌, arith}
use Rattle.hw_model.specs.KindViews.{literal_of}
use Rattle.printing_laws.specs.Numbers.{shown_literal}
use Rattle.mlir_printer.specs.Literals.{literal_bytes}
use Rattle.mlir_printer.specs.Commas.{items_from}
use Rattle.mlir_printer.proofs.steps.Steps.{items_end, literals_items}
use Rattle.mlir_printer.proofs.literals.+literals.Goals as goal

pub push_literals-returns : goal.push_literals-returns
push_literals-returns t c =
    let items = c.args.literals.now in
    items_end (λ x. literal_bytes (shown_literal (literal_of x))) c.loop-i.i items c.loop-i.i c.loop-i.out (c.args.out.now ++ items_from (λ x. literal_bytes (shown_literal (literal_of x))) 0 items)
    (omega (arith, c.loop-i-test.false)) c.loop-i.invariant
    ∙ ap (λ r. c.args.out.now ++ r) (literals_items literal_of 0 items)
