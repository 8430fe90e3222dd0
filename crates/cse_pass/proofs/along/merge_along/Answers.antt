use Rattle.body_edits.specs.Views.{body_ops}
use Rattle.cse_pass.proofs.InOrder.{begin_along, along_then}
use Rattle.cse_pass.proofs.MergeRuns.{merges_then}
use Rattle.cse_pass.proofs.along.merge_along.Goals as goal

pub loop-op-init : goal.loop-op-init
loop-op-init c = begin_along c.args.places.now c.args.body.now c.requires.fit c.requires.ordered

pub loop-op-preserved : goal.loop-op-preserved
loop-op-preserved c =
    along_then c.args.places.now c.args.body.now c.loop-op.body c.visit_along.new.body c.loop-op.invariant
    c.visit_along.ensures.fit c.visit_along.ensures.ordered c.visit_along.ensures.merges

pub returns-in_err-visit_along-clause-merges : goal.returns-in_err-visit_along-clause-merges
returns-in_err-visit_along-clause-merges c =
    merges_then (body_ops c.args.body.now) (body_ops c.loop-op.body) (body_ops c.visit_along.new.body) c.loop-op.invariant.merges c.visit_along.ensures.merges
