use Rattle.std.proofs.Common.{length, refl, arith}
use Rattle.ir_store.specs.BodyOps.{position_before}
use Rattle.linked_lists.specs.Links.{linked_in}
use Rattle.ir_store.specs.Orders.{live_ids, free_ids}
use Rattle.ir_store.proofs.OrderCalls.{is_added, none_free}
use Rattle.ir_store.proofs.order.Order.add.Goals as goal

pub link_in-requires-clause-position : goal.link_in-requires-clause-position
link_in-requires-clause-position c =
    let a = is_added c.args.self.now (position_before c.args.before (live_ids c.args.self.now)) c.neighbours-prev.result.0 c.neighbours-prev.result.1 c.next_id-id.result.0 _ _ c.next_id-id.result.1
    (linked_in c.next_id-id.result.0 c.neighbours-prev.result.0 c.neighbours-prev.result.1 c.args.self.now.links.items)
    c.requires.small c.neighbours-prev.ensures.prev c.neighbours-prev.ensures.next c.next_id-id.ensures.fresh c.next_id-id.ensures.known refl refl refl in
    a.within

pub link_in-requires-clause-room : goal.link_in-requires-clause-room
link_in-requires-clause-room c =
    let a = is_added c.args.self.now (position_before c.args.before (live_ids c.args.self.now)) c.neighbours-prev.result.0 c.neighbours-prev.result.1 c.next_id-id.result.0 _ _ c.next_id-id.result.1
    (linked_in c.next_id-id.result.0 c.neighbours-prev.result.0 c.neighbours-prev.result.1 c.args.self.now.links.items)
    c.requires.small c.neighbours-prev.ensures.prev c.neighbours-prev.ensures.next c.next_id-id.ensures.fresh c.next_id-id.ensures.known refl refl refl in
    λ h. omega (arith, h, none_free (free_ids c.args.self.now) c.next_id-id.result.0 (length c.args.self.now.links.items) a.known h, c.requires.room, c.args.self.now.within, c.args.self.now.links.ok.0)

pub invariant_of-self : goal.invariant_of-self
invariant_of-self c =
    let a = is_added c.args.self.now (position_before c.args.before (live_ids c.args.self.now)) c.neighbours-prev.result.0 c.neighbours-prev.result.1 c.next_id-id.result.0 c.unless_none-self.result c.unless_none-self-2.result c.next_id-id.result.1 c.link_in.new.links.items
    c.requires.small c.neighbours-prev.ensures.prev c.neighbours-prev.ensures.next c.next_id-id.ensures.fresh c.next_id-id.ensures.known c.link_in.ensures.items c.unless_none-self.ensures c.unless_none-self-2.ensures in
    record {
      few = a.order.few;
      within = a.enough;
      linked = a.order.linked;
      end = a.order.end;
      once = a.order.once;
      below = a.order.below;
      marks = a.order.marks;
    }

pub returns-clause-ids : goal.returns-clause-ids
returns-clause-ids c =
    let a = is_added c.args.self.now (position_before c.args.before (live_ids c.args.self.now)) c.neighbours-prev.result.0 c.neighbours-prev.result.1 c.next_id-id.result.0 c.unless_none-self.result c.unless_none-self-2.result c.next_id-id.result.1 c.link_in.new.links.items
    c.requires.small c.neighbours-prev.ensures.prev c.neighbours-prev.ensures.next c.next_id-id.ensures.fresh c.next_id-id.ensures.known c.link_in.ensures.items c.unless_none-self.ensures c.unless_none-self-2.ensures in
    a.ids

pub returns-clause-fresh : goal.returns-clause-fresh
returns-clause-fresh c =
    let a = is_added c.args.self.now (position_before c.args.before (live_ids c.args.self.now)) c.neighbours-prev.result.0 c.neighbours-prev.result.1 c.next_id-id.result.0 c.unless_none-self.result c.unless_none-self-2.result c.next_id-id.result.1 c.link_in.new.links.items
    c.requires.small c.neighbours-prev.ensures.prev c.neighbours-prev.ensures.next c.next_id-id.ensures.fresh c.next_id-id.ensures.known c.link_in.ensures.items c.unless_none-self.ensures c.unless_none-self-2.ensures in
    a.fresh

pub returns-clause-within : goal.returns-clause-within
returns-clause-within c =
    let a = is_added c.args.self.now (position_before c.args.before (live_ids c.args.self.now)) c.neighbours-prev.result.0 c.neighbours-prev.result.1 c.next_id-id.result.0 c.unless_none-self.result c.unless_none-self-2.result c.next_id-id.result.1 c.link_in.new.links.items
    c.requires.small c.neighbours-prev.ensures.prev c.neighbours-prev.ensures.next c.next_id-id.ensures.fresh c.next_id-id.ensures.known c.link_in.ensures.items c.unless_none-self.ensures c.unless_none-self-2.ensures in
    a.within

pub returns-clause-count : goal.returns-clause-count
returns-clause-count c =
    let a = is_added c.args.self.now (position_before c.args.before (live_ids c.args.self.now)) c.neighbours-prev.result.0 c.neighbours-prev.result.1 c.next_id-id.result.0 c.unless_none-self.result c.unless_none-self-2.result c.next_id-id.result.1 c.link_in.new.links.items
    c.requires.small c.neighbours-prev.ensures.prev c.neighbours-prev.ensures.next c.next_id-id.ensures.fresh c.next_id-id.ensures.known c.link_in.ensures.items c.unless_none-self.ensures c.unless_none-self-2.ensures in
    a.count

pub returns-clause-known : goal.returns-clause-known
returns-clause-known c =
    let a = is_added c.args.self.now (position_before c.args.before (live_ids c.args.self.now)) c.neighbours-prev.result.0 c.neighbours-prev.result.1 c.next_id-id.result.0 c.unless_none-self.result c.unless_none-self-2.result c.next_id-id.result.1 c.link_in.new.links.items
    c.requires.small c.neighbours-prev.ensures.prev c.neighbours-prev.ensures.next c.next_id-id.ensures.fresh c.next_id-id.ensures.known c.link_in.ensures.items c.unless_none-self.ensures c.unless_none-self-2.ensures in
    a.known
