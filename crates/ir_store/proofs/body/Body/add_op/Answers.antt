use Rattle.std.proofs.Common.{◌≡◌, ◌≤◌, map, length, arith, refl, ap}
use Rattle.std.proofs.lemmas.List.{length-map}
use Rattle.linked_lists.specs.Ids.{put_at}
use Rattle.ir_store.specs.BodyOps.{position_before}
use Rattle.ir_store.specs.OperationViews.{parts_of, new_parts}
use Rattle.ir_store.specs.Orders.{live_ids}
use Rattle.linked_lists.proofs.IdLemmas.{map-put_at, not_contained, insert_there, length-put_at}
use Rattle.ir_store.proofs.BodyLemmas.{op_put, ids_seen, length_ids}
use Rattle.ir_store.proofs.Ordering.{length-walk}
use Rattle.ir_store.proofs.body.Body.add_op.Goals as goal

pub returns-clause-ok : goal.returns-clause-ok
returns-clause-ok c =
    let live = c.reserve.ensures.ids in
    let ids = rw live at c.add-id.ensures.ids in
    let fresh = rw live at c.add-id.ensures.fresh in
    let within : c.add-id.result ≤ length c.args.self.now.order.links.items = rw c.reserve.ensures.count at c.add-id.ensures.within in
    let items = rw c.reserve-2.ensures.items at c.put_parts.ensures.items in
    let parts : map parts_of c.put_parts.new.parts.items ≡ put_at c.add-id.result (new_parts c.args.op) (map parts_of c.args.self.now.parts.items) =
    rw (items, map-put_at parts_of c.add-id.result c.into_parts.result c.args.self.now.parts.items, c.into_parts.ensures) in
    let lists = rw (c.reserve-3.ensures.lists, c.as_slice.ensures) at c.put.ensures.lists in
    op_put (map parts_of c.args.self.now.parts.items) (map parts_of c.put_parts.new.parts.items) c.args.self.now.operands.lists c.put.new.self.lists
    c.args.before (new_parts c.args.op) c.args.op.operands.items (live_ids c.args.self.now.order) (live_ids c.add-id.new.self) c.add-id.result (position_before c.args.before (live_ids c.args.self.now.order))
    (omega (arith, within, length-map c.args.self.now.parts.items parts_of, c.args.self.now.parts_fit)) (omega (arith, within, c.args.self.now.lists_fit))
    fresh parts lists ids refl

pub returns-clause-there : goal.returns-clause-there
returns-clause-there c =
    let live = c.reserve.ensures.ids in
    let ids = rw live at c.add-id.ensures.ids in
    rw (ids_seen (map parts_of c.put_parts.new.parts.items) c.put.new.self.lists (live_ids c.add-id.new.self), ids)
    (insert_there (live_ids c.args.self.now.order) (position_before c.args.before (live_ids c.args.self.now.order)) c.add-id.result)

pub returns-clause-fresh : goal.returns-clause-fresh
returns-clause-fresh c =
    let live = c.reserve.ensures.ids in
    let fresh = rw live at c.add-id.ensures.fresh in
    λ h. not_contained (live_ids c.args.self.now.order) c.add-id.result fresh (rw (ids_seen (map parts_of c.args.self.now.parts.items) c.args.self.now.operands.lists (live_ids c.args.self.now.order)) at h)

pub add-id-requires-clause-there : goal.add-id-requires-clause-there
add-id-requires-clause-there c =
    rw c.reserve.ensures.ids (rw (ids_seen (map parts_of c.args.self.now.parts.items) c.args.self.now.operands.lists (live_ids c.args.self.now.order)) at c.requires.live)

pub add-id-requires-clause-small : goal.add-id-requires-clause-small
add-id-requires-clause-small c =
    let count = length_ids (map parts_of c.args.self.now.parts.items) c.args.self.now.operands.lists (live_ids c.args.self.now.order) in
    omega (arith, c.requires.room, count, length-walk c.args.self.now.order.links.items c.args.self.now.order.live c.args.self.now.order.first, c.reserve.ensures.live)

pub invariant_of-self-2 : goal.invariant_of-self-2
invariant_of-self-2 c =
    let within : c.add-id.result ≤ length c.args.self.now.order.links.items = rw c.reserve.ensures.count at c.add-id.ensures.within in
    let items = rw c.reserve-2.ensures.items at c.put_parts.ensures.items in
    let lists = rw (c.reserve-3.ensures.lists, c.as_slice.ensures) at c.put.ensures.lists in
    record {
      parts_fit =
          omega (
            arith,
            ap length items,
            length-put_at c.add-id.result c.into_parts.result c.args.self.now.parts.items
                (omega (arith, within, c.args.self.now.parts_fit)),
            c.add-id.ensures.count,
            c.reserve.ensures.count,
            c.args.self.now.parts_fit,
          );
      lists_fit =
          omega (
            arith,
            ap length lists,
            length-put_at c.add-id.result c.args.op.operands.items c.args.self.now.operands.lists
                (omega (arith, within, c.args.self.now.lists_fit)),
            c.add-id.ensures.count,
            c.reserve.ensures.count,
            c.args.self.now.lists_fit,
          );
    }

pub returns-clause-next : goal.returns-clause-next
returns-clause-next c =
    λ g.
    let count = length_ids (map parts_of c.args.self.now.parts.items) c.args.self.now.operands.lists (live_ids c.args.self.now.order) in
    let next = c.add-id.ensures.next (omega (arith, g, c.reserve.ensures.count, c.reserve.ensures.live)) in
    omega (arith, next, count, length-walk c.args.self.now.order.links.items c.args.self.now.order.live c.args.self.now.order.first, c.reserve.ensures.live)
