use Rattle.graphs.proofs.Repeated.{one_more_empty}
use Rattle.graphs.proofs.order.empty_lists.Goals as goal

pub loop-preserved : goal.loop-preserved
loop-preserved c = one_more_empty c.push.new.self.items c.loop.lists.items (record { nodes = c.new.result }) c.loop.counter c.loop.invariant c.in_ok-push.ensures.items c.new.ensures.items
