use Rattle.std.proofs.Common.{◌≡◌, ◌≤◌, ◌-◌, [], map, length, set, refl, arith}
use Rattle.std.specs.Prelude.{Some}
use Rattle.std.proofs.lemmas.List.{map-set, length-set}
use Rattle.linked_lists.specs.Ids.{times}
use Rattle.ir_store.specs.BodyOps.{position_before}
use Rattle.linked_lists.specs.Links.{walk}
use Rattle.ir_store.specs.OperationViews.{parts_of}
use Rattle.ir_store.specs.Orders.{live_ids}
use Rattle.linked_lists.proofs.IdLemmas.{times-append}
use Rattle.ir_store.proofs.BodyLemmas.{op_gone, count_found, ids_seen}
use Rattle.ir_store.proofs.body.Body.erase.Goals as goal

pub index_of-index-requires : goal.index_of-index-requires
index_of-index-requires c = rw (ids_seen (map parts_of c.args.self.now.parts.items) c.args.self.now.operands.lists (live_ids c.args.self.now.order)) at c.requires.live

pub remove-requires : goal.remove-requires
remove-requires c = rw (ids_seen (map parts_of c.args.self.now.parts.items) c.args.self.now.operands.lists (live_ids c.args.self.now.order)) at c.requires.live

pub returns-clause-ops : goal.returns-clause-ops
returns-clause-ops c =
    let here = rw (ids_seen (map parts_of c.args.self.now.parts.items) c.args.self.now.operands.lists (live_ids c.args.self.now.order)) at c.requires.live in
    let once : times c.args.op.index (live_ids c.args.self.now.order) ≤ 1 =
    omega (
      arith,
      times-append c.args.op.index (live_ids c.args.self.now.order) (walk c.args.self.now.order.links.items
          (length c.args.self.now.order.links.items - c.args.self.now.order.live) c.args.self.now.order.free),
      c.args.self.now.order.once c.args.op.index,
    ) in
    let parts : map parts_of (set c.args.self.now.parts.items c.index_of-index.result c.empty.result) ≡ set (map parts_of c.args.self.now.parts.items) c.args.op.index (parts_of c.empty.result) =
    rw c.index_of-index.ensures.value (map-set parts_of c.args.self.now.parts.items c.args.op.index c.empty.result) in
    let lists = rw c.index_of-index.ensures.value at c.clear.ensures.lists in
    op_gone (map parts_of c.args.self.now.parts.items) (map parts_of (set c.args.self.now.parts.items c.index_of-index.result c.empty.result)) c.args.self.now.operands.lists c.clear.new.self.lists
    c.args.op (parts_of c.empty.result) [] (live_ids c.args.self.now.order) (live_ids c.remove.new.self) (position_before (Some c.args.op) (live_ids c.args.self.now.order)) here once parts lists c.remove.ensures.ids refl

pub returns-clause-spare : goal.returns-clause-spare
returns-clause-spare c =
    let here = rw (ids_seen (map parts_of c.args.self.now.parts.items) c.args.self.now.operands.lists (live_ids c.args.self.now.order)) at c.requires.live in
    let count = count_found (map parts_of c.args.self.now.parts.items) c.args.self.now.operands.lists (live_ids c.args.self.now.order) c.args.op.index here in
    let room = rw c.index_of-index.ensures.value at c.clear.ensures.room in
    let lists : length c.clear.new.self.lists ≡ length c.args.self.now.operands.lists = rw (c.clear.ensures.lists, length-set) refl in (
      omega (
        arith,
        c.remove.ensures.live,
        c.remove.ensures.capacity,
        lists,
        c.clear.ensures.list_room,
        c.args.self.now.order.within,
        c.args.self.now.parts_fit,
        c.args.self.now.lists_fit,
        c.args.self.now.order.links.ok.0,
        c.args.self.now.order.links.ok.1,
        c.args.self.now.parts.ok.0,
        c.args.self.now.parts.ok.1,
      ),
      omega (arith, room, count),
    )
