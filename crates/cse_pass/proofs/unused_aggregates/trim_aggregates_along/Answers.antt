use Rattle.std.proofs.Common.{arith}
use Rattle.body_edits.specs.Views.{body_ops}
use Rattle.cse_pass.proofs.UnusedAggregates.{no_aggregate_trim, aggregate_trims_then}
use Rattle.cse_pass.proofs.unused_aggregates.trim_aggregates_along.Goals as goal

pub loop-left-init : goal.loop-left-init
loop-left-init c = record { within = omega arith; fit = c.requires; trims = no_aggregate_trim (body_ops c.args.body.now) }

pub loop-left-preserved : goal.loop-left-preserved
loop-left-preserved c = record {
  within = omega (arith, c.loop-left.invariant.within);
  fit = c.trim_aggregate.ensures.fit;
  trims = aggregate_trims_then (body_ops c.args.body.now) (body_ops c.loop-left.body) (body_ops c.trim_aggregate.new.body) c.loop-left.invariant.trims c.trim_aggregate.ensures.trims;
}
