use Rattle.std.proofs.Common.{◌∙◌, suc, drop}
use Rattle.ir_store.specs.Numbered.{position_of}
use Rattle.ir_store.specs.Orders.{live_ids}
use Rattle.ir_store.proofs.PositionsBefore.{after_live, none_after, some_after}
use Rattle.ir_store.proofs.order.Order.after.Goals as goal

pub returns-then-next : goal.returns-then-next
returns-then-next c =
    let links = after_live c.args.self.now c.args.id c.requires in
    none_after (drop (suc (position_of (live_ids c.args.self.now) c.args.id.index)) (live_ids c.args.self.now)) c.next_of-next.result
    ((rw c.as_slice.ensures.value at c.next_of-next.ensures) ∙ links.0) c.if-next.true links.1

pub returns-else-next : goal.returns-else-next
returns-else-next c =
    let links = after_live c.args.self.now c.args.id c.requires in
    some_after (drop (suc (position_of (live_ids c.args.self.now) c.args.id.index)) (live_ids c.args.self.now)) c.next_of-next.result
    ((rw c.as_slice.ensures.value at c.next_of-next.ensures) ∙ links.0) c.if-next.false
