use Rattle.std.proofs.Common.{length}
use Rattle.body_edits.specs.Views.{body_ops}
use Rattle.cse_pass.proofs.Sweeping.{Merging}
use Rattle.cse_pass.proofs.merges.merge_equal.Given as goal

abbrev pub invariant-loop : goal.invariant-loop
invariant-loop l = Merging l.fn.body l.body

abbrev pub decreases-loop : goal.decreases-loop
decreases-loop l = length (body_ops l.body)
