use Rattle.body_edits.specs.Replaced.{new_seen}
use Rattle.body_edits.specs.Views.{body_ops, position_in}
use Rattle.comb_fold.proofs.JoinedOps.{takes_named, inner_after, unused_after, is_joined}
use Rattle.comb_fold.proofs.replaced_patterns.replace_both.Goals as goal

pub put_in_place-requires-clause-named : goal.put_in_place-requires-clause-named
put_in_place-requires-clause-named c =
    takes_named (body_ops c.args.body.now) (position_in c.args.body.now c.args.op) (position_in c.args.body.now c.args.inner) (new_seen c.args.body.now c.args.new) c.requires.takes

pub erase-requires-clause-live : goal.erase-requires-clause-live
erase-requires-clause-live c =
    inner_after c.args.body.now c.args.op c.args.inner (new_seen c.args.body.now c.args.new) c.requires.takes c.put_in_place.new.body c.in_ok-put_in_place.ensures.replaced

pub erase-requires-clause-unused : goal.erase-requires-clause-unused
erase-requires-clause-unused c =
    unused_after c.args.body.now c.args.op c.args.inner (new_seen c.args.body.now c.args.new) c.requires.takes c.put_in_place.new.body c.in_ok-put_in_place.ensures.replaced
    c.in_ok-put_in_place.ensures.operands

pub returns-clause-joined : goal.returns-clause-joined
returns-clause-joined c =
    is_joined c.args.body.now c.args.op c.args.inner (new_seen c.args.body.now c.args.new) c.requires.takes c.put_in_place.new.body c.in_ok-put_in_place.ensures.replaced
    c.in_ok-put_in_place.ensures.operands c.erase.new.self c.erase.ensures.ops
