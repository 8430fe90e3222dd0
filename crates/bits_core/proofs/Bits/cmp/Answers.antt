use Rattle.bits_core.proofs.Order.{order-numbers}
use Rattle.bits_core.proofs.Bits.cmp.Goals as goal

pub returns-else-signed : goal.returns-else-signed
returns-else-signed c = cc (order-numbers c.args.self.now c.args.b.now c.requires)
