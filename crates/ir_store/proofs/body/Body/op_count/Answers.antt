use Rattle.std.proofs.Common.{map, sym, ◌∙◌}
use Rattle.ir_store.specs.OperationViews.{parts_of}
use Rattle.ir_store.specs.Orders.{live_ids}
use Rattle.ir_store.proofs.BodyLemmas.{length_ids}
use Rattle.ir_store.proofs.Ordering.{length-walk}
use Rattle.ir_store.proofs.body.Body.op_count.Goals as goal

pub returns : goal.returns
returns c =
    c.count.ensures
    ∙ sym (length_ids (map parts_of c.args.self.now.parts.items) c.args.self.now.operands.lists (live_ids c.args.self.now.order)
    ∙ length-walk c.args.self.now.order.links.items c.args.self.now.order.live c.args.self.now.order.first)
