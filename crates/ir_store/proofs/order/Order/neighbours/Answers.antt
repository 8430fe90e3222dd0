use Rattle.std.proofs.Common.{refl, ◌∙◌}
use Rattle.linked_lists.specs.Links.{none}
use Rattle.ir_store.specs.Orders.{live_ids}
use Rattle.ir_store.proofs.order.Order.neighbours.Goals as goal
use Rattle.ir_store.proofs.PositionsBefore.{position_prefix, position_back}

pub returns-in-Some-clause-prev : goal.returns-in-Some-clause-prev
returns-in-Some-clause-prev c =
    let there = rw c.in-Some.is at c.requires in
    let e = rw c.as_slice.ensures.value at c.prev_of.ensures in
    rw c.in-Some.is (e ∙ position_prefix c.args.self.now.links.items none (live_ids c.args.self.now) none c.in-Some.other there c.args.self.now.linked)

pub returns-in-Some-clause-next : goal.returns-in-Some-clause-next
returns-in-Some-clause-next c =
    let there = rw c.in-Some.is at c.requires in
    rw (c.in-Some.is, position_back (live_ids c.args.self.now) c.in-Some.other there) refl
