use Rattle.std.proofs.Common.{◌≡◌, length}
use Rattle.ir_store.specs.UsesLeft.{uses_left, cells_left}
use Rattle.ir_store.proofs.uses.UsesIterator.next.Given as goal

abbrev pub invariant-loop-self : goal.invariant-loop-self
invariant-loop-self l = uses_left l.fn.self ≡ uses_left l.self

abbrev pub decreases-loop-self : goal.decreases-loop-self
decreases-loop-self l = length (cells_left l.self)
