use Rattle.std.proofs.Common.{Some, None, refl}
use Rattle.std.proofs.lemmas.Result.{on_ok_weaker}
use Rattle.body_edits.specs.Views.{body_ops, position_in, value_ref, op_seen}
use Rattle.comb_fold.proofs.JoinedPattern.{site_two, site_number, site_even, none_joined, joined_folded}
use Rattle.comb_fold.proofs.joined.F14Pattern.apply.Goals as goal

pub joined_number-number-requires-clause-even : goal.joined_number-number-requires-clause-even
joined_number-number-requires-clause-even c =
    site_even c.args.body.now c.at-site.result c.at-site.ensures.body c.requires.fit (position_in c.args.body.now c.args.op) c.at-site.ensures.there c.in-Some.two c.in-Some.ensures

pub unreachable-requires : goal.unreachable-requires
unreachable-requires c =
    none_joined (body_ops c.args.body.now) (position_in c.args.body.now c.args.op) (op_seen c.args.body.now c.at-site.result.op) (value_ref c.args.body.now) c.at-site.result.op.operands.now
    c.at-site.ensures.there refl (site_two c.args.body.now c.at-site.result c.at-site.ensures.body None c.in-None.ensures) c.requires.matches

pub returns-clause-folded : goal.returns-clause-folded
returns-clause-folded c =
    on_ok_weaker c.join.result
    (joined_folded c.args.body.now c.join.new.body (position_in c.args.body.now c.args.op) (op_seen c.args.body.now c.at-site.result.op) (value_ref c.args.body.now) c.at-site.result.op.operands.now
    c.in-Some.two c.joined_number-number.result c.at-site.ensures.there refl (site_two c.args.body.now c.at-site.result c.at-site.ensures.body (Some c.in-Some.two) c.in-Some.ensures)
    (site_number c.args.body.now c.at-site.result c.at-site.ensures.body c.joined_number-number.result c.joined_number-number.ensures))
    c.join.ensures.joined
