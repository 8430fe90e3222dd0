use Rattle.seq_lower.proofs.PutBefore.{was_put}
use Rattle.seq_lower.proofs.edits.put_before.Goals as goal

pub returns : goal.returns
returns c =
    was_put c.args.body.now c.add_op.new.self c.args.op c.in-Ok.id c.args.new c.requires.ready c.requires.operands c.in-Ok.ensures.fresh c.in-Ok.ensures.ok
    c.in-Ok.ensures.there c.in-Ok.ensures.spare.0 c.in-Ok.ensures.spare.1
