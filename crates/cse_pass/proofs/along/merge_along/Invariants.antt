use Rattle.cse_pass.proofs.InOrder.{IsAlong}
use Rattle.cse_pass.proofs.along.merge_along.Given as goal

abbrev pub invariant-loop-op : goal.invariant-loop-op
invariant-loop-op l = IsAlong l.places l.fn.body l.body
