use Rattle.std.proofs.Common.{◌≡◌, take}
use Rattle.clause_learning.proofs.stored_clause.StoredClause.new.Given as goal

abbrev pub invariant-loop-literal : goal.invariant-loop-literal
invariant-loop-literal l = l.literals.items ≡ take l.literal-index l.clause
