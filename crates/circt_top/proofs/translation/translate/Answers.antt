use Rattle.std.proofs.lemmas.Result.{IfOk-weaker}
use Rattle.ir_store.specs.Designs.{design_of}
use Rattle.circt_top.specs.Translation.{IsTranslatedFrom, IsTranslated}
use Rattle.circt_top.proofs.translation.translate.Goals as goal

pub returns : goal.returns
returns g c =
    IfOk-weaker c.export_made.result (IsTranslatedFrom c.args.passes.now c.args.options (design_of c.args.verified.design) (design_of c.in_ok-made.made.design))
    (IsTranslated c.args.passes.now c.args.options (design_of c.args.verified.design)) (λ text is. is.translated)
    (c.export_made.ensures c.args.passes.now (design_of c.args.verified.design) c.args.verified.accepted c.args.verified.canonical c.in_ok-made.ensures.made)
