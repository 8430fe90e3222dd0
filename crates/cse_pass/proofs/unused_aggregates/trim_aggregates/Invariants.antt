use Rattle.std.proofs.Common.{length}
use Rattle.body_edits.specs.FitBodies.{IsOfFit}
use Rattle.body_edits.specs.Views.{body_ops}
use Rattle.cse_pass.specs.UnusedAggregates.{AggregateTrims}
use Rattle.cse_pass.proofs.unused_aggregates.trim_aggregates.Given as goal

abbrev pub invariant-loop-body : goal.invariant-loop-body
invariant-loop-body l = record {
  fit : IsOfFit l.body;
  trims : AggregateTrims (body_ops l.fn.body) (body_ops l.body);
}

abbrev pub decreases-loop-body : goal.decreases-loop-body
decreases-loop-body l = length (body_ops l.body)
