use Rattle.std.proofs.Common.{◌<◌, ◌≤◌, length, arith}
use Rattle.body_edits.specs.Views.{body_ops}
use Rattle.cse_pass.proofs.UnusedAggregates.{no_aggregate_trim, aggregate_trims_then, aggregate_trims_shorten}
use Rattle.cse_pass.proofs.unused_aggregates.trim_aggregates.Goals as goal

pub loop-body-init : goal.loop-body-init
loop-body-init c = record { fit = c.requires; trims = no_aggregate_trim (body_ops c.args.body.now) }

pub returns-in_err-trim_aggregate_sweep-clause-trims : goal.returns-in_err-trim_aggregate_sweep-clause-trims
returns-in_err-trim_aggregate_sweep-clause-trims c =
    aggregate_trims_then (body_ops c.args.body.now) (body_ops c.loop-body.body) (body_ops c.trim_aggregate_sweep.new.body) c.loop-body.invariant.trims c.trim_aggregate_sweep.ensures.trims

pub returns-in_err-levels-clause-trims : goal.returns-in_err-levels-clause-trims
returns-in_err-levels-clause-trims c =
    aggregate_trims_then (body_ops c.args.body.now) (body_ops c.loop-body.body) (body_ops c.trim_aggregate_sweep.new.body) c.loop-body.invariant.trims c.trim_aggregate_sweep.ensures.trims

pub loop-body-smaller : goal.loop-body-smaller
loop-body-smaller c =
    let fewer : length (body_ops c.trim_aggregate_sweep.new.body) < length (body_ops c.loop-body.body) = c.in_ok-trim_aggregate_sweep.ensures.fewer c.if-branch.true in
    let most : length (body_ops c.trim_aggregates_along.new.body) ≤ length (body_ops c.trim_aggregate_sweep.new.body) =
    aggregate_trims_shorten (body_ops c.trim_aggregate_sweep.new.body) (body_ops c.trim_aggregates_along.new.body) c.trim_aggregates_along.ensures.trims in
    omega (arith, fewer, most)

pub loop-body-preserved : goal.loop-body-preserved
loop-body-preserved c = record {
  fit = c.trim_aggregates_along.ensures.fit;
  trims = aggregate_trims_then (body_ops c.args.body.now) (body_ops c.trim_aggregate_sweep.new.body) (body_ops c.trim_aggregates_along.new.body)
      (aggregate_trims_then (body_ops c.args.body.now) (body_ops c.loop-body.body) (body_ops c.trim_aggregate_sweep.new.body) c.loop-body.invariant.trims c.trim_aggregate_sweep.ensures.trims)
      c.trim_aggregates_along.ensures.trims;
}

pub returns-clause-trimmed : goal.returns-clause-trimmed
returns-clause-trimmed c = record {
  trims = aggregate_trims_then (body_ops c.args.body.now) (body_ops c.loop-body.body) (body_ops c.trim_aggregate_sweep.new.body) c.loop-body.invariant.trims c.trim_aggregate_sweep.ensures.trims;
  none_left = c.in_ok-trim_aggregate_sweep.ensures.none c.if-branch.false;
}

pub returns-clause-trims : goal.returns-clause-trims
returns-clause-trims c =
    aggregate_trims_then (body_ops c.args.body.now) (body_ops c.loop-body.body) (body_ops c.trim_aggregate_sweep.new.body) c.loop-body.invariant.trims c.trim_aggregate_sweep.ensures.trims
