use Rattle.std.proofs.Common.{◌≡◌, length}
use Rattle.lrat_text.specs.Checking.{are_there, without_all}
use Rattle.lrat_text.specs.Stored.{store_of}
use Rattle.lrat_text.proofs.steps.delete.Given as goal

abbrev pub invariant-loop-number : goal.invariant-loop-number
invariant-loop-number l = record {
  there : are_there (store_of l.clauses) l.rest ≡ are_there (store_of l.fn.clauses) l.numbers;
  left : without_all (store_of l.clauses) l.rest ≡ without_all (store_of l.fn.clauses) l.numbers;
}

abbrev pub decreases-loop-number : goal.decreases-loop-number
decreases-loop-number l = length l.rest
