use Rattle.std.proofs.Common.{Result, Ok, Err, OnErr}
use Rattle.body_edits.specs.Views.{body_ops}
use Rattle.canonicalise.proofs.Ranks.{smaller_is_lower}
use Rattle.canonicalise.proofs.Tried.{no_marks}
use Rattle.canonicalise.proofs.Sweeping.{way_begins, way_goes_on, way_leads}
use Rattle.canonicalise.proofs.canonicalize.canonicalize.Goals as goal

-- what holds holds of an error
on_err : {T E : Type 0} (r : Result T E) {P : Type 0} → P → OnErr r P
on_err (Ok x) p = tt
on_err (Err e) p = p

pub returns-in_err-sweep-clause-partly : goal.returns-in_err-sweep-clause-partly
returns-in_err-sweep-clause-partly c =
    on_err c.from_residual.result (way_leads (body_ops c.args.body.now) (body_ops c.loop-marks.body) (body_ops c.sweep.new.body) c.loop-marks.invariant.1 c.in_err-sweep.ensures.leads)

pub loop-marks-init : goal.loop-marks-init
loop-marks-init c = (c.requires, way_begins (body_ops c.args.body.now), no_marks c.args.body.now c.new-marks.result c.new-marks.ensures.none c.new-marks.ensures.runs)

pub loop-marks-smaller : goal.loop-marks-smaller
loop-marks-smaller c = smaller_is_lower (body_ops c.loop-marks.body) (body_ops c.sweep.new.body) (c.in_ok-sweep.ensures.smaller c.if-branch.true)

pub loop-marks-preserved : goal.loop-marks-preserved
loop-marks-preserved c = (
  c.sweep.ensures.fit,
  way_goes_on (body_ops c.args.body.now) (body_ops c.loop-marks.body) (body_ops c.sweep.new.body) c.loop-marks.invariant.1 (rw c.if-branch.true at c.in_ok-sweep.ensures.swept),
  c.in_ok-sweep.ensures.settled,
)
