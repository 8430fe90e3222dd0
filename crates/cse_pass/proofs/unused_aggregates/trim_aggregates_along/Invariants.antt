use Rattle.std.proofs.Common.{◌≤◌, length}
use Rattle.body_edits.specs.FitBodies.{IsOfFit}
use Rattle.body_edits.specs.Views.{body_ops}
use Rattle.cse_pass.specs.UnusedAggregates.{AggregateTrims}
use Rattle.cse_pass.proofs.unused_aggregates.trim_aggregates_along.Given as goal

abbrev pub invariant-loop-left : goal.invariant-loop-left
invariant-loop-left l = record {
  within : l.left ≤ length l.order;
  fit : IsOfFit l.body;
  trims : AggregateTrims (body_ops l.fn.body) (body_ops l.body);
}

abbrev pub decreases-loop-left : goal.decreases-loop-left
decreases-loop-left l = l.left
