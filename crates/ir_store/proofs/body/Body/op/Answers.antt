use Rattle.std.proofs.Common.{map, rules, ◌<◌, length}
use Rattle.ir_store.specs.OperationViews.{parts_of}
use Rattle.ir_store.specs.Orders.{live_ids}
use Rattle.ir_store.specs.BodyOps.{no_parts}
use Rattle.ir_store.proofs.BodyLemmas.{op_found, map_read, ids_seen}
use Rattle.ir_store.proofs.body.Body.op.Goals as goal

pub index_of-index-requires : goal.index_of-index-requires
index_of-index-requires c = rw (ids_seen (map parts_of c.args.self.now.parts.items) c.args.self.now.operands.lists (live_ids c.args.self.now.order)) at c.requires

pub returns : goal.returns
returns c =
    let found = op_found (map parts_of c.args.self.now.parts.items) c.args.self.now.operands.lists (live_ids c.args.self.now.order) c.args.id.index
    (rw (ids_seen (map parts_of c.args.self.now.parts.items) c.args.self.now.operands.lists (live_ids c.args.self.now.order)) at c.requires) in
    let i_in : c.index_of-index.result < length c.args.self.now.parts.items = search rules in
    let seen = map_read parts_of c.args.self.now.parts.items c.index_of-index.result c.index-parts.result.now no_parts i_in c.index-parts.ensures in
    rw (c.read.ensures.parts, c.read.ensures.operands, c.get-operands.ensures.list, ← seen, c.index_of-index.ensures.value) found
