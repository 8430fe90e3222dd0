use Rattle.std.proofs.Common.{◌≡◌, Some, sym, ap, subst, ◌∙◌}
use Rattle.std.specs.Arc.{arc_value}
use Rattle.body_edits.specs.Views.{body_ops}
use Rattle.pass_manager.proofs.OwnedBodies.{same_ops, fit_same}
use Rattle.pass_manager.proofs.body_work.BodyWorkWorkBodies.work.Goals as goal

pub run-requires : goal.run-requires
run-requires g c = fit_same c.in_ok-body.body (arc_value c.args.body) c.in_ok-body.ensures c.requires.first.fit

pub returns : goal.returns
returns g c old at =
    let both : Some (arc_value c.args.body) ≡ Some old = sym c.requires.first.there ∙ at in
    let same : arc_value c.args.body ≡ old = cc in
    subst (λ b. g.P.BodyPass.makes (body_ops old) (body_ops b)) (sym c.in_ok-new.ensures.ok)
    (subst (λ os. g.P.BodyPass.makes os (body_ops c.run.new.body)) (same_ops c.in_ok-body.body (arc_value c.args.body) c.in_ok-body.ensures ∙ ap body_ops same) c.in_ok-run.ensures)
