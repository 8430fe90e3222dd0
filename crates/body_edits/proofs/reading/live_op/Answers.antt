use Rattle.std.proofs.Common.{◌≡◌, sym, ◌∙◌, true, false}
use Rattle.body_edits.proofs.ReadBodies.{maker_seen, maker_none}
use Rattle.body_edits.proofs.reading.live_op.Goals as goal

pub returns-then-contains : goal.returns-then-contains
returns-then-contains c = sym (maker_seen c.args.body.now c.args.id c.op.result c.op.ensures)

pub returns-else-contains : goal.returns-else-contains
returns-else-contains c = sym (maker_none c.args.body.now c.args.id (λ there. let clash : false ≡ true = sym c.if-contains.false ∙ c.contains.ensures.1 there in cc))
