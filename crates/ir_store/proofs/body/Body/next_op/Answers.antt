use Rattle.std.proofs.Common.{map}
use Rattle.ir_store.specs.OperationViews.{parts_of}
use Rattle.ir_store.specs.Orders.{live_ids}
use Rattle.ir_store.proofs.BodyLemmas.{ids_seen}
use Rattle.ir_store.proofs.body.Body.next_op.Goals as goal

pub after-requires : goal.after-requires
after-requires c = rw (ids_seen (map parts_of c.args.self.now.parts.items) c.args.self.now.operands.lists (live_ids c.args.self.now.order)) at c.requires

pub returns : goal.returns
returns c = rw (ids_seen (map parts_of c.args.self.now.parts.items) c.args.self.now.operands.lists (live_ids c.args.self.now.order)) c.after.ensures
