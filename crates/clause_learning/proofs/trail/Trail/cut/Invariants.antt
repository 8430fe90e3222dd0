use Rattle.std.proofs.Common.{◌≡◌, ◌≤◌, take, length}
use Rattle.clause_learning.proofs.trail.Trail.cut.Given as goal

abbrev pub invariant-loop-self : goal.invariant-loop-self
invariant-loop-self l = (l.position ≤ length l.self.entries) × (l.self.variables ≡ l.fn.self.variables) × (l.self.entries ≡ take (length l.self.entries) l.fn.self.entries) × (length l.self.entries ≤ length l.fn.self.entries)

abbrev pub decreases-loop-self : goal.decreases-loop-self
decreases-loop-self l = length l.self.entries
