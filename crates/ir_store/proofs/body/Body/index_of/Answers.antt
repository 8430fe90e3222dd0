use Rattle.std.proofs.Common.{◌-◌, length}
use Rattle.linked_lists.specs.Links.{walk}
use Rattle.ir_store.specs.Orders.{live_ids}
use Rattle.linked_lists.proofs.IdLemmas.{live_below}
use Rattle.ir_store.proofs.body.Body.index_of.Goals as goal

pub returns-clause-within : goal.returns-clause-within
returns-clause-within c =
    live_below (live_ids c.args.self.now.order) (walk c.args.self.now.order.links.items (length c.args.self.now.order.links.items - c.args.self.now.order.live) c.args.self.now.order.free)
    (length c.args.self.now.order.links.items) c.args.id.index c.args.self.now.order.below c.requires
