use Rattle.std.proofs.Common.{◌≡◌, ◌≤◌, ◌-◌, length}
use Rattle.clause_learning.specs.Watcher.{IsWatching}
use Rattle.clause_learning.specs.Watching.{Propagates}
use Rattle.clause_learning.proofs.watcher.Watcher.propagate.Given as goal

abbrev pub invariant-loop-self : goal.invariant-loop-self
invariant-loop-self l = record {
  watching : IsWatching l.self;
  clauses : l.self.table.clauses ≡ l.fn.self.table.clauses;
  variables : l.self.trail.variables ≡ l.fn.self.trail.variables;
  propagates : Propagates l.self.table.clauses.items l.fn.self.trail.entries l.self.trail.entries;
  all : length l.self.table.short.items ≤ l.self.short_head;
}

abbrev pub decreases-loop-self : goal.decreases-loop-self
decreases-loop-self l = l.self.trail.variables - l.self.head
