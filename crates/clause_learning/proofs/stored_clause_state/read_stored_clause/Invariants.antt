use Rattle.std.proofs.Common.{◌≡◌, ◌<◌, ◌≤◌, ℕ, true}
use Rattle.resolution_proof.specs.Literal.{negation, holds}
use Rattle.clause_learning.specs.Trail.{literals}
use Rattle.clause_learning.specs.Watching.{literal_at}
use Rattle.clause_learning.proofs.stored_clause_state.read_stored_clause.Given as goal

abbrev pub invariant-loop-k : goal.invariant-loop-k
invariant-loop-k l = (m : ℕ) → 2 ≤ m → m < l.k → holds (literals l.trail.entries) (negation (literal_at l.stored_clause m)) ≡ true
