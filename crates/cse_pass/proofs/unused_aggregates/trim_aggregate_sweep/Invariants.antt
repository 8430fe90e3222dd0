use Rattle.cse_pass.proofs.UnusedAggregates.{AggregateSweeping}
use Rattle.cse_pass.proofs.unused_aggregates.trim_aggregate_sweep.Given as goal

abbrev pub invariant-loop-left : goal.invariant-loop-left
invariant-loop-left l = AggregateSweeping l.fn.body l.body l.left l.any

abbrev pub decreases-loop-left : goal.decreases-loop-left
decreases-loop-left l = l.left
