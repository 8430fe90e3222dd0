use Rattle.std.proofs.Common.{◌≡◌, ◌++◌, drop}
use Rattle.lrat_text.specs.Written.{clause_lines}
use Rattle.lrat_text.proofs.write.push_clauses.Given as goal

abbrev pub invariant-loop-clause : goal.invariant-loop-clause
invariant-loop-clause l = l.text ++ clause_lines (drop l.clause-index l.clauses) ≡ l.fn.text ++ clause_lines l.clauses
