use Rattle.std.proofs.Common.{sym, subst}
use Rattle.ir_store.specs.Designs.{design_of}
use Rattle.circt_top.specs.Accepting.{Accepted}
use Rattle.circt_top.proofs.outcome.translate_whole.Goals as goal

pub returns-in_ok-translate-in-Ok : goal.returns-in_ok-translate-in-Ok
returns-in_ok-translate-in-Ok g c = λ contents e.
    record {
      design = design_of c.in-Ok.verified.design;
      accepted = subst (λ s. Accepted s (design_of c.in-Ok.verified.design)) (sym e) c.in-Ok.ensures;
      translated = c.in_ok-translate-in-Ok.ensures;
    }
