use Rattle.std.proofs.Common.{length}
use Rattle.cdcl_proof.specs.Order.{IsOrder, KeepsWaiting}
use Rattle.cdcl_proof.proofs.order.Order.bump_pivots.Given as goal

abbrev pub invariant-loop-hint : goal.invariant-loop-hint
invariant-loop-hint l = IsOrder (length l.fn.self.activities.items) l.self × KeepsWaiting l.fn.self.heap.items l.self.heap.items
