use Rattle.std.proofs.Common.{length}
use Rattle.body_edits.specs.Views.{body_ops}
use Rattle.cse_pass.proofs.Trimming.{Trimming}
use Rattle.cse_pass.proofs.trims.trim.Given as goal

abbrev pub invariant-loop : goal.invariant-loop
invariant-loop l = Trimming l.fn.body l.body

abbrev pub decreases-loop : goal.decreases-loop
decreases-loop l = length (body_ops l.body)
