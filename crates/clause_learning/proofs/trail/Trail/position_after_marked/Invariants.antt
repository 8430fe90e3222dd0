use Rattle.std.proofs.Common.{◌≡◌, ◌<◌, ◌≤◌, ℕ, false}
use Rattle.clause_learning.specs.Trail.{entry_at}
use Rattle.clause_learning.specs.Learning.{is_seen_entry}
use Rattle.clause_learning.proofs.trail.Trail.position_after_marked.Given as goal

abbrev pub invariant-loop-position : goal.invariant-loop-position
invariant-loop-position l = (l.position ≤ l.last) × ((k : ℕ) → l.position ≤ k → k < l.last → is_seen_entry l.seen (entry_at l.self-inside.entries.items k) ≡ false)

abbrev pub decreases-loop-position : goal.decreases-loop-position
decreases-loop-position l = l.position
