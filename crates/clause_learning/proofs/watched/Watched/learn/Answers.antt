use Rattle.clause_learning.proofs.watched.Watched.learn.Goals as goal

pub returns-clause-within : goal.returns-clause-within
returns-clause-within c = rw c.learn.ensures.watching.variables c.learn.ensures.watching.table.clauses
