use Rattle.std.proofs.Common.{◌≡◌, take, []}
use Rattle.clause_learning.specs.Watcher.{IsWatching}
use Rattle.clause_learning.proofs.watched.Watched.new.Given as goal

abbrev pub invariant-loop-clause : goal.invariant-loop-clause
invariant-loop-clause l = IsWatching l.watcher × (l.watcher.table.clauses.items ≡ take l.clause-index l.clause-items) × (l.watcher.trail ≡ record { variables = l.cnf.variables; entries = [] })
