use Rattle.design_cycles.proofs.Ordered.{after_or_late, not_register}
use Rattle.design_cycles.proofs.in_order.stands_after.Goals as goal

pub returns : goal.returns
returns c =
    after_or_late c.args.body.now c.op_at-op.result c.args.ids.now c.args.position c.are_before.result c.requires.all c.op_at-op.ensures
    (not_register c.args.body.now c.op_at-op.result c.sort_of.result c.in_default.not-Register c.sort_of.ensures.register) c.are_before.ensures
