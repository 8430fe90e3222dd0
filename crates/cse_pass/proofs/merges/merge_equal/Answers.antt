use Rattle.body_edits.specs.Views.{body_ops}
use Rattle.cse_pass.proofs.Following.{changes_then}
use Rattle.cse_pass.proofs.Sweeping.{begin_merging, merging_more, all_are_merged}
use Rattle.cse_pass.proofs.merges.merge_equal.Goals as goal

pub loop-init : goal.loop-init
loop-init c = begin_merging c.args.body.now c.requires

pub returns-in_err-merge_sweep-clause-changes : goal.returns-in_err-merge_sweep-clause-changes
returns-in_err-merge_sweep-clause-changes c =
    changes_then (body_ops c.args.body.now) (body_ops c.loop.body) (body_ops c.merge_sweep.new.body) c.loop.invariant.changes c.merge_sweep.ensures.changes

pub loop-preserved : goal.loop-preserved
loop-preserved c =
    merging_more c.args.body.now c.loop.body c.merge_sweep.new.body c.in_ok-merge_sweep.field-0 c.loop.invariant c.in_ok-merge_sweep.ensures.swept c.merge_sweep.ensures.fit c.merge_sweep.ensures.changes

pub returns-clause-merged : goal.returns-clause-merged
returns-clause-merged c =
    all_are_merged c.args.body.now c.loop.body c.merge_sweep.new.body c.in_ok-merge_sweep.field-0 c.loop.invariant c.in_ok-merge_sweep.ensures.swept c.if-branch.false

pub returns-clause-changes : goal.returns-clause-changes
returns-clause-changes c =
    changes_then (body_ops c.args.body.now) (body_ops c.loop.body) (body_ops c.merge_sweep.new.body) c.loop.invariant.changes c.merge_sweep.ensures.changes
