use Rattle.seq_lower.proofs.PutBefore.{was_put}
use Rattle.seq_lower.proofs.PutInPlace.{there_replaced, unused_replaced, was_replaced}
use Rattle.seq_lower.proofs.edits.put_in_place.Goals as goal

pub erase-requires-clause-live : goal.erase-requires-clause-live
erase-requires-clause-live c =
    there_replaced c.args.body.now c.add_op.new.self c.args.op c.in-Ok.id c.args.new c.requires.ready c.requires.operands c.in-Ok.ensures.fresh c.in-Ok.ensures.ok _ _
    (was_put c.args.body.now c.add_op.new.self c.args.op c.in-Ok.id c.args.new c.requires.ready c.requires.operands c.in-Ok.ensures.fresh c.in-Ok.ensures.ok
    c.in-Ok.ensures.there c.in-Ok.ensures.spare.0 c.in-Ok.ensures.spare.1)
    c.replace_all_uses.new.self c.replace_all_uses.ensures.ops

pub erase-requires-clause-unused : goal.erase-requires-clause-unused
erase-requires-clause-unused c =
    unused_replaced c.args.body.now c.add_op.new.self c.args.op c.in-Ok.id c.args.new c.requires.ready c.requires.operands c.in-Ok.ensures.fresh c.in-Ok.ensures.ok _ _
    (was_put c.args.body.now c.add_op.new.self c.args.op c.in-Ok.id c.args.new c.requires.ready c.requires.operands c.in-Ok.ensures.fresh c.in-Ok.ensures.ok
    c.in-Ok.ensures.there c.in-Ok.ensures.spare.0 c.in-Ok.ensures.spare.1)
    c.replace_all_uses.new.self c.replace_all_uses.ensures.ops

pub returns : goal.returns
returns c =
    was_replaced c.args.body.now c.add_op.new.self c.args.op c.in-Ok.id c.args.new c.requires.ready c.requires.operands c.in-Ok.ensures.fresh c.in-Ok.ensures.ok _ _
    (was_put c.args.body.now c.add_op.new.self c.args.op c.in-Ok.id c.args.new c.requires.ready c.requires.operands c.in-Ok.ensures.fresh c.in-Ok.ensures.ok
    c.in-Ok.ensures.there c.in-Ok.ensures.spare.0 c.in-Ok.ensures.spare.1)
    c.replace_all_uses.new.self c.replace_all_uses.ensures.ops c.erase.new.self c.erase.ensures.ops
