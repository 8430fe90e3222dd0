use Rattle.std.proofs.Common.{sym, ap, ◌∙◌, subst}
use Rattle.ir_store.specs.Designs.{design_of}
use Rattle.inline_pass.specs.Flattening.{IsFlattened}
use Rattle.pass_manager.specs.PublicModules.{public_modules}
use Rattle.pass_manager.proofs.PublicKept.{public_left}
use Rattle.shared_schedule.proofs.Working.{on-ok}
use Rattle.pass_manager.proofs.flattening.flatten_modules.Goals as goal

pub returns-clause-made : goal.returns-clause-made
returns-clause-made g c =
    on-ok c.keep_public.result (λ kept. subst (IsFlattened (design_of c.args.design.now)) (sym (kept ∙ ap public_modules c.in_ok-flatten_bodies.ensures.made))
    (public_left (design_of c.args.design.now) c.requires.fit)) c.keep_public.ensures

pub returns-clause-visits : goal.returns-clause-visits
returns-clause-visits g c = on-ok c.keep_public.result (λ kept. c.in_ok-flatten_bodies.ensures.visits) c.keep_public.ensures
