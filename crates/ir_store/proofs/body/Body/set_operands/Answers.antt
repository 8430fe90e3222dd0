use Rattle.std.proofs.Common.{◌<◌, map, length, rules}
use Rattle.linked_lists.proofs.IdLemmas.{put_at_set}
use Rattle.ir_store.specs.OperationViews.{parts_of}
use Rattle.ir_store.specs.Orders.{live_ids}
use Rattle.ir_store.proofs.BodyLemmas.{operands_set, ids_seen}
use Rattle.ir_store.proofs.body.Body.set_operands.Goals as goal

pub index_of-index-requires : goal.index_of-index-requires
index_of-index-requires c = rw (ids_seen (map parts_of c.args.self.now.parts.items) c.args.self.now.operands.lists (live_ids c.args.self.now.order)) at c.requires.live

pub returns-clause-ok : goal.returns-clause-ok
returns-clause-ok c =
    let i_in : c.index_of-index.result < length c.args.self.now.operands.lists = search rules in
    rw (c.put.ensures.lists, c.reserve_operands.ensures.lists, ← c.index_of-index.ensures.value)
    (rw (put_at_set c.index_of-index.result c.args.values.now c.args.self.now.operands.lists i_in)
    (operands_set (map parts_of c.args.self.now.parts.items) c.args.self.now.operands.lists (λ os. c.args.values.now) c.index_of-index.result i_in (live_ids c.args.self.now.order)))
