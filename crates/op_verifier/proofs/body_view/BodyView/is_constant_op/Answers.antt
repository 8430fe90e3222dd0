use Rattle.std.proofs.Common.{sym, ◌∙◌}
use Rattle.op_verifier.specs.BodyViews.{position_viewed}
use Rattle.op_verifier.proofs.Found.{copied_some, copied_none, constant_there, constant_gone}
use Rattle.op_verifier.proofs.body_view.BodyView.is_constant_op.Goals as goal

pub returns-in-Some : goal.returns-in-Some
returns-in-Some c =
    let v = c.args.self.now in
    let found = copied_some c.find.result _ c.in-Some.entry c.find.ensures c.in-Some.is in
    c.is_constant.ensures ∙ sym (constant_there (position_viewed v) v.entries.items (position_viewed v c.args.id.index) c.in-Some.entry.now found)

pub returns-in-None : goal.returns-in-None
returns-in-None c =
    let v = c.args.self.now in
    let gone = copied_none c.find.result _ c.find.ensures c.in-None.is in
    sym (constant_gone (position_viewed v) v.entries.items (position_viewed v c.args.id.index) gone)
