use Rattle.std.proofs.Common.{◌≡◌, ◌+◌, List, length}
use Rattle.resolution_proof.specs.declared.literal.Literal.{Literal}
use Rattle.lrat_text.specs.Marks.{Shows, IsBelow}
use Rattle.lrat_text.specs.Stored.{store_of}
use Rattle.lrat_text.proofs.Walking.{IsWalking}
use Rattle.lrat_text.proofs.hints.hints_fault.Given as goal

abbrev pub invariant-loop-hint : goal.invariant-loop-hint
invariant-loop-hint l = record {
  walk : (set : List Literal) → Shows l.fn.marks set → IsWalking (store_of l.clauses) l.marks l.rest set l.hints;
  stamp : l.marks.stamp ≡ l.fn.marks.stamp;
  below : IsBelow (l.fn.marks.stamp + 1) l.marks;
}

abbrev pub decreases-loop-hint : goal.decreases-loop-hint
decreases-loop-hint l = length l.rest
