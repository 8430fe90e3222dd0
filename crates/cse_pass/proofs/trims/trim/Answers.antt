use Rattle.body_edits.specs.Views.{body_ops}
use Rattle.cse_pass.proofs.Following.{changes_then}
use Rattle.cse_pass.proofs.Trimming.{begin_trimming, trimming_more, all_are_trimmed}
use Rattle.cse_pass.proofs.trims.trim.Goals as goal

pub loop-init : goal.loop-init
loop-init c = begin_trimming c.args.body.now c.requires

pub returns-in_err-trim_sweep-clause-changes : goal.returns-in_err-trim_sweep-clause-changes
returns-in_err-trim_sweep-clause-changes c =
    changes_then (body_ops c.args.body.now) (body_ops c.loop.body) (body_ops c.trim_sweep.new.body) c.loop.invariant.changes c.trim_sweep.ensures.changes

pub loop-preserved : goal.loop-preserved
loop-preserved c =
    trimming_more c.args.body.now c.loop.body c.trim_sweep.new.body c.in_ok-trim_sweep.field-0 c.loop.invariant c.in_ok-trim_sweep.ensures.swept c.trim_sweep.ensures.fit c.trim_sweep.ensures.changes

pub returns-clause-trimmed : goal.returns-clause-trimmed
returns-clause-trimmed c =
    all_are_trimmed c.args.body.now c.loop.body c.trim_sweep.new.body c.in_ok-trim_sweep.field-0 c.loop.invariant c.in_ok-trim_sweep.ensures.swept c.if-branch.false

pub returns-clause-changes : goal.returns-clause-changes
returns-clause-changes c =
    changes_then (body_ops c.args.body.now) (body_ops c.loop.body) (body_ops c.trim_sweep.new.body) c.loop.invariant.changes c.trim_sweep.ensures.changes
