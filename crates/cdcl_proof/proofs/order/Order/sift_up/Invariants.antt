use Rattle.std.proofs.Common.{◌≡◌, ◌<◌, length}
use Rattle.cdcl_proof.specs.Order.{IsOrder, KeepsWaiting}
use Rattle.cdcl_proof.proofs.order.Order.sift_up.Given as goal

abbrev pub invariant-loop-at : goal.invariant-loop-at
invariant-loop-at l = IsOrder (length l.fn.self.activities.items) l.self × (length l.self.heap.items ≡ length l.fn.self.heap.items) × KeepsWaiting l.fn.self.heap.items l.self.heap.items × (l.at < length l.self.heap.items)

abbrev pub decreases-loop-at : goal.decreases-loop-at
decreases-loop-at l = l.at
