use Rattle.clause_learning.proofs.watched.Watched.propagate.Goals as goal

pub returns-clause-within : goal.returns-clause-within
returns-clause-within c = rw c.propagate.ensures.watching.variables c.propagate.ensures.watching.table.clauses
