use Rattle.std.proofs.Common.{refl, sym, ap, ◌∙◌}
use Rattle.std.specs.Prelude.{is_some}
use Rattle.hw_model.specs.TypeViews.{type_of}
use Rattle.body_edits.specs.Views.{body_ops, position_in, value_ref, op_seen}
use Rattle.comb_fold.proofs.JoinedPattern.{two_if, pattern_at, site_two}
use Rattle.comb_fold.proofs.joined.F14Pattern.matches.Goals as goal

pub returns-in-Some : goal.returns-in-Some
returns-in-Some c =
    c.is_some.ensures
    ∙ ap is_some (site_two c.args.body.now c.at-site.result c.at-site.ensures.body c.two_constants.result c.two_constants.ensures)
    ∙ sym (ap is_some (pattern_at (body_ops c.args.body.now) (position_in c.args.body.now c.args.op) (op_seen c.args.body.now c.at-site.result.op) (type_of c.in-Some.field-0.now) c.at-site.ensures.there (sym c.in-Some.ensures))
    ∙ two_if (body_ops c.args.body.now) (position_in c.args.body.now c.args.op) (op_seen c.args.body.now c.at-site.result.op) (type_of c.in-Some.field-0.now) (op_seen c.args.body.now c.at-site.result.op).kind
    (value_ref c.args.body.now) c.at-site.result.op.operands.now refl)
