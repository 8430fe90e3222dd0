use Rattle.std.proofs.Common.{◌+◌}
use Rattle.ir_store.specs.Bodies.{ids_of}
use Rattle.body_edits.specs.Views.{body_ops}
use Rattle.canonicalise.specs.Settled.{AreMarks}
use Rattle.canonicalise.proofs.Ranks.{rank}
use Rattle.canonicalise.proofs.Visiting.{Visiting, left}
use Rattle.canonicalise.proofs.canonicalize.sweep.Given as goal

abbrev pub invariant-loop-at : goal.invariant-loop-at
invariant-loop-at l = Visiting l.fn.body l.body l.at l.changed × AreMarks l.marks l.body

abbrev pub decreases-loop-at : goal.decreases-loop-at
decreases-loop-at l = rank (body_ops l.body) + left (ids_of l.body) l.at
