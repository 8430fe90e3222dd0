use Rattle.std.proofs.Common.{sym, ap, ◌∙◌}
use Rattle.std.specs.Prelude.{option_map}
use Rattle.body_edits.specs.Nests.{kind_test, nested_seen}
use Rattle.body_edits.specs.Sites.{ops_at, ref_at}
use Rattle.body_edits.specs.Views.{position_in}
use Rattle.body_edits.proofs.NestedReads.{first_step}
use Rattle.body_edits.proofs.nested.first_nested.Goals as goal

pub loop-number-preserved : goal.loop-number-preserved
loop-number-preserved c =
    first_step (kind_test c.args.kinds) (ops_at c.args.site.now) (position_in c.args.site.now.body.now c.args.id) (ref_at c.args.site.now) c.args.site.now.op.operands.now
    c.loop-number.number _ c.loop-number-test.true c.loop-number.invariant
    (sym (ap (option_map (nested_seen c.args.site.now.body.now)) c.in_default.is) ∙ c.nested_at.ensures)
