use Rattle.std.proofs.Common.{false, ◌≡◌, ◌≤◌, ◌-◌, length}
use Rattle.clause_learning.specs.Trail.{literals}
use Rattle.clause_learning.specs.Watching.{AreVisited, list_at}
use Rattle.clause_learning.proofs.Visiting.{IsReading}
use Rattle.clause_learning.proofs.watcher.Watcher.read_list.Given as goal

abbrev pub invariant-loop-position : goal.invariant-loop-position
invariant-loop-position l = record {
  reading : IsReading l.fn.self l.self l.slot;
  within : l.position ≤ length (list_at l.self.table.lists.items l.slot);
  visited : l.only_binary ≡ false → AreVisited (literals l.self.trail.entries) l.self.table.stored_clauses.items (list_at l.self.table.lists.items l.slot) l.position;
}

abbrev pub decreases-loop-position : goal.decreases-loop-position
decreases-loop-position l = length (list_at l.self.table.lists.items l.slot) - l.position
