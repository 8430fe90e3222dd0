use Rattle.std.proofs.Common.{◌≡◌, map, ap, ◌∙◌, subst, sym}
use Rattle.std.proofs.lemmas.Result.{IfOk-weaker}
use Rattle.ir_store.specs.Designs.{modules_of, numbered_module, design_of}
use Rattle.mlir_reader.specs.Spelling.{SpellsUnlocated}
use Rattle.mlir_printer.specs.Texts.{ir_text}
use Rattle.mlir_printer.proofs.design_text.print_and_drop.Goals as goal

pub returns-clause-spelled : goal.returns-clause-spelled
returns-clause-spelled g c =
    let verified = c.args.verified in
    let d = design_of verified.design in
    let printable = c.what_is_canonical_is_printable.ensures d verified.accepted verified.canonical in
    let same : modules_of c.into_design.result ≡ modules_of verified.design = c.into_design.ensures in
    IfOk-weaker c.text_and_drop.result (λ text. text ≡ ir_text (design_of c.into_design.result)) (λ text. SpellsUnlocated text d)
    (λ text e.
    subst (λ t. SpellsUnlocated t d) (sym (e ∙ ap (λ ms. ir_text (map numbered_module ms)) same)) (c.what_is_printable_is_spelled.ensures d printable))
    c.text_and_drop.ensures
