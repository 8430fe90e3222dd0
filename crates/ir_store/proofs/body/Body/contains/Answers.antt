use Rattle.std.proofs.Common.{map}
use Rattle.ir_store.specs.OperationViews.{parts_of}
use Rattle.ir_store.specs.Orders.{live_ids}
use Rattle.ir_store.proofs.BodyLemmas.{ids_seen}
use Rattle.ir_store.proofs.body.Body.contains.Goals as goal

pub returns : goal.returns
returns c = rw (ids_seen (map parts_of c.args.self.now.parts.items) c.args.self.now.operands.lists (live_ids c.args.self.now.order)) c.contains.ensures
