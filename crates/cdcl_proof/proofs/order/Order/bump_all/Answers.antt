use Rattle.std.proofs.Common.{Global, ℕ, subst, sym}
use Rattle.std.specs.declared.vec.Vec.{Vec}
use Rattle.cdcl_proof.specs.Order.{Waits}
use Rattle.cdcl_proof.proofs.order.Order.bump_all.Goals as goal

pub returns-clause-kept : goal.returns-clause-kept
returns-clause-kept c v w = subst (λ (x : Vec ℕ Global). Waits x.items v) (sym c.decay.ensures.heap) (c.loop-literal.invariant.1 v w)
