use Rattle.std.proofs.lemmas.Result.{IfOk-weaker}
use Rattle.ir_store.specs.Designs.{design_of}
use Rattle.circt_top.specs.Reprint.{IsReprint, IsReprintOf}
use Rattle.circt_top.proofs.outcome.reprint.Goals as goal

pub returns : goal.returns
returns g c =
    IfOk-weaker c.print_made.result (IsReprintOf c.args.passes.now (design_of c.args.verified.design)) (IsReprint c.args.passes.now c.args.source.now)
    (λ text h. record { design = design_of c.args.verified.design; accepted = c.requires; reprinted = h })
    c.print_made.ensures
