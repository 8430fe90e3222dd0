use Rattle.std.proofs.Common.{sym}
use Rattle.clause_learning.proofs.Marking.{count_seen-none}
use Rattle.clause_learning.proofs.resolving.mark_conflict.Goals as goal

pub mark_clause-requires-clause-count : goal.mark_clause-requires-clause-count
mark_clause-requires-clause-count c = sym (count_seen-none c.clear.new.self _ c.clear.ensures.none)
