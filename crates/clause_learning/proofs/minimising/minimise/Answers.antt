use Rattle.std.proofs.Common.{◌+◌, arith}
use Rattle.clause_learning.proofs.Regularity.{pivots_above}
use Rattle.clause_learning.proofs.minimising.minimise.Goals as goal

pub subsume-requires-clause-pivots : goal.subsume-requires-clause-pivots
subsume-requires-clause-pivots c =
    let below = c.if-place-last.true in
    pivots_above c.args.trail.now.entries (c.in-Some.place + 1) c.loop-place.last c.loop-place.hints.items (omega (arith, below)) c.loop-place.invariant.1
