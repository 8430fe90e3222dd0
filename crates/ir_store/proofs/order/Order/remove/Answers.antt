use Rattle.std.proofs.Common.{◌≡◌, ◌+◌, ◌-◌, arith}
use Rattle.ir_store.specs.Orders.{live_ids}
use Rattle.linked_lists.specs.Links.{walk}
use Rattle.std.proofs.Common.{length}
use Rattle.linked_lists.proofs.IdLemmas.{contained_times, live_below}
use Rattle.ir_store.proofs.Ordering.{length-walk}
use Rattle.ir_store.proofs.OrderCalls.{is_removed, times_length}
use Rattle.ir_store.proofs.order.Order.remove.Goals as goal

pub link_out-requires : goal.link_out-requires
link_out-requires c =
    record {
      position = live_below (live_ids c.args.self.now) (walk c.args.self.now.links.items (length c.args.self.now.links.items - c.args.self.now.live) c.args.self.now.free) (length c.args.self.now.links.items)
          c.args.id.index c.args.self.now.below c.requires;
    }

pub invariant_of-self : goal.invariant_of-self
invariant_of-self c =
    let prev = rw c.as_slice.ensures.value at c.prev_of-prev.ensures in
    let next = rw c.as_slice-2.ensures.value at c.next_of-next.ensures in
    let live : c.args.self.now.live - 1 + 1 ≡ c.args.self.now.live = omega (
      arith,
      contained_times (live_ids c.args.self.now) c.args.id.index c.requires,
      times_length c.args.id.index
          (live_ids c.args.self.now),
      length-walk c.args.self.now.links.items c.args.self.now.live c.args.self.now.first,
    ) in
    let r = is_removed c.args.self.now c.args.id c.prev_of-prev.result c.next_of-next.result (c.args.self.now.live - 1) c.unless_none-self.result c.unless_none-self-2.result c.link_out.new.links.items
    c.requires live prev next c.link_out.ensures.items c.unless_none-self.ensures c.unless_none-self-2.ensures in
    record {
      few = r.order.few;
      within = omega (arith, r.count, c.args.self.now.within);
      linked = r.order.linked;
      end = r.order.end;
      once = r.order.once;
      below = r.order.below;
      marks = r.order.marks;
    }

pub returns-clause-ids : goal.returns-clause-ids
returns-clause-ids c =
    let prev = rw c.as_slice.ensures.value at c.prev_of-prev.ensures in
    let next = rw c.as_slice-2.ensures.value at c.next_of-next.ensures in
    let live : c.args.self.now.live - 1 + 1 ≡ c.args.self.now.live = omega (
      arith,
      contained_times (live_ids c.args.self.now) c.args.id.index c.requires,
      times_length c.args.id.index
          (live_ids c.args.self.now),
      length-walk c.args.self.now.links.items c.args.self.now.live c.args.self.now.first,
    ) in
    let r = is_removed c.args.self.now c.args.id c.prev_of-prev.result c.next_of-next.result (c.args.self.now.live - 1) c.unless_none-self.result c.unless_none-self-2.result c.link_out.new.links.items
    c.requires live prev next c.link_out.ensures.items c.unless_none-self.ensures c.unless_none-self-2.ensures in
    r.ids

pub returns-clause-count : goal.returns-clause-count
returns-clause-count c =
    let prev = rw c.as_slice.ensures.value at c.prev_of-prev.ensures in
    let next = rw c.as_slice-2.ensures.value at c.next_of-next.ensures in
    let live : c.args.self.now.live - 1 + 1 ≡ c.args.self.now.live = omega (
      arith,
      contained_times (live_ids c.args.self.now) c.args.id.index c.requires,
      times_length c.args.id.index
          (live_ids c.args.self.now),
      length-walk c.args.self.now.links.items c.args.self.now.live c.args.self.now.first,
    ) in
    let r = is_removed c.args.self.now c.args.id c.prev_of-prev.result c.next_of-next.result (c.args.self.now.live - 1) c.unless_none-self.result c.unless_none-self-2.result c.link_out.new.links.items
    c.requires live prev next c.link_out.ensures.items c.unless_none-self.ensures c.unless_none-self-2.ensures in
    r.count
