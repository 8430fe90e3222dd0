use Rattle.std.proofs.Common.{ℕ, ◌≡◌, ◌<◌, ◌+◌, length, get_or}
use Rattle.cdcl_proof.proofs.order.Order.new.Given as goal

abbrev pub invariant-loop-index : goal.invariant-loop-index
invariant-loop-index l = (length l.heap.items ≡ l.index) × (length l.positions.items ≡ l.index) × ((p : ℕ) → p < l.index → get_or l.heap.items p 0 ≡ p + 1)
