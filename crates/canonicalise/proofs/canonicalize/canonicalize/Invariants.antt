use Rattle.body_edits.specs.FitBodies.{IsOfFit}
use Rattle.body_edits.specs.Views.{body_ops}
use Rattle.canonicalise.specs.Settled.{AreMarks}
use Rattle.canonicalise.proofs.Ranks.{rank}
use Rattle.canonicalise.proofs.Sweeping.{IsOnWay}
use Rattle.canonicalise.proofs.canonicalize.canonicalize.Given as goal

abbrev pub invariant-loop-marks : goal.invariant-loop-marks
invariant-loop-marks l = IsOfFit l.body × IsOnWay (body_ops l.fn.body) (body_ops l.body) × AreMarks l.marks l.body

abbrev pub decreases-loop-marks : goal.decreases-loop-marks
decreases-loop-marks l = rank (body_ops l.body)
