use Rattle.std.proofs.Common.{sym, ◌∙◌}
use Rattle.linked_lists.specs.Links.{none}
use Rattle.ir_store.specs.Orders.{live_ids}
use Rattle.ir_store.proofs.Ordering.{marked_live, live_marked}
use Rattle.ir_store.proofs.order.Order.contains.Goals as goal

pub returns : goal.returns
returns c =
    let e = rw c.as_slice.ensures.value at c.is_live.ensures in (
      λ t. live_marked c.args.self.now.links.items (live_ids c.args.self.now) c.args.id c.args.self.now.marks (sym e ∙ t),
      λ h. e ∙ marked_live c.args.self.now.links.items none (live_ids c.args.self.now) none c.args.id c.args.self.now.linked h,
    )
