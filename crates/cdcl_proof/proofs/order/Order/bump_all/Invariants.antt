use Rattle.std.proofs.Common.{length}
use Rattle.cdcl_proof.specs.Order.{IsOrder, KeepsWaiting}
use Rattle.cdcl_proof.proofs.order.Order.bump_all.Given as goal

abbrev pub invariant-loop-literal : goal.invariant-loop-literal
invariant-loop-literal l = IsOrder (length l.fn.self.activities.items) l.self × KeepsWaiting l.fn.self.heap.items l.self.heap.items
