use Rattle.std.proofs.Common.{map}
use Rattle.ir_store.specs.OperationViews.{parts_of}
use Rattle.ir_store.specs.Orders.{live_ids}
use Rattle.ir_store.specs.BodyOps.{replace_value}
use Rattle.ir_store.proofs.BodyLemmas.{operands_replaced}
use Rattle.ir_store.proofs.body.Body.replace_all_uses.Goals as goal

pub returns-clause-ops : goal.returns-clause-ops
returns-clause-ops c =
    rw c.replace.ensures.lists
    (operands_replaced (map parts_of c.args.self.now.parts.items) c.args.self.now.operands.lists (replace_value c.args.from c.args.to) (live_ids c.args.self.now.order))
