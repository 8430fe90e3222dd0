use Rattle.std.proofs.Common.{map, rules, ◌<◌, length}
use Rattle.std.specs.Prelude.{slice_set}
use Rattle.ir_store.specs.OperationViews.{parts_of}
use Rattle.ir_store.specs.Orders.{live_ids}
use Rattle.ir_store.proofs.BodyLemmas.{op_found, operands_set, ids_seen}
use Rattle.ir_store.proofs.body.Body.set_operand.Goals as goal

pub index_of-index-requires : goal.index_of-index-requires
index_of-index-requires c = rw (ids_seen (map parts_of c.args.self.now.parts.items) c.args.self.now.operands.lists (live_ids c.args.self.now.order)) at c.requires.live

pub set-requires-clause-position : goal.set-requires-clause-position
set-requires-clause-position c =
    rw c.index_of-index.ensures.value
    (rw (op_found (map parts_of c.args.self.now.parts.items) c.args.self.now.operands.lists (live_ids c.args.self.now.order) c.args.op.index
    (rw (ids_seen (map parts_of c.args.self.now.parts.items) c.args.self.now.operands.lists (live_ids c.args.self.now.order)) at c.requires.live)) at c.requires.position)

pub returns-clause-ops : goal.returns-clause-ops
returns-clause-ops c =
    let i_in : c.index_of-index.result < length c.args.self.now.operands.lists = search rules in
    rw (c.set.ensures.lists, ← c.index_of-index.ensures.value)
    (operands_set (map parts_of c.args.self.now.parts.items) c.args.self.now.operands.lists (λ os. slice_set os c.args.at c.args.value) c.index_of-index.result i_in (live_ids c.args.self.now.order))
