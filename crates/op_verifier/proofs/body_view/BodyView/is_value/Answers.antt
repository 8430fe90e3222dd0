use Rattle.std.proofs.Common.{sym}
use Rattle.op_verifier.specs.BodyViews.{ports_viewed, position_viewed}
use Rattle.op_verifier.proofs.Found.{copied_some, copied_none, value_there, value_gone}
use Rattle.op_verifier.proofs.body_view.BodyView.is_value.Goals as goal

pub returns-in-Some : goal.returns-in-Some
returns-in-Some c =
    let v = c.args.self.now in
    let found = copied_some c.find.result _ c.in-Some.entry c.find.ensures c.in-Some.is in
    rw (c.in-Result.is, c.as_slice-results.ensures) (sym (value_there (ports_viewed v) (position_viewed v) v.entries.items (position_viewed v c.in-Result.id.index) c.in-Result.k c.in-Some.entry.now found))

pub returns-in-None : goal.returns-in-None
returns-in-None c =
    let v = c.args.self.now in
    let gone = copied_none c.find.result _ c.find.ensures c.in-None.is in
    rw c.in-Result.is (sym (value_gone (ports_viewed v) (position_viewed v) v.entries.items (position_viewed v c.in-Result.id.index) c.in-Result.k gone))
