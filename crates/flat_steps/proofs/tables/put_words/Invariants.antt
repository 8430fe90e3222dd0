use Rattle.std.proofs.Common.{◌≡◌, length}
use Rattle.flat_steps.specs.Tables.{with_words}
use Rattle.flat_steps.proofs.tables.put_words.Given as goal

abbrev pub invariant-loop-place : goal.invariant-loop-place
invariant-loop-place l = with_words l.left l.rest l.table ≡ with_words l.places l.words l.initial.table

abbrev pub decreases-loop-place : goal.decreases-loop-place
decreases-loop-place l = length l.left
