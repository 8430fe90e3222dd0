use Rattle.std.proofs.Common.{◌≡◌, ◌+◌, length}
use Rattle.lrat_text.specs.Marks.{IsBelow}
use Rattle.lrat_text.proofs.Walking.{IsMarking}
use Rattle.lrat_text.proofs.hints.mark_negations.Given as goal

abbrev pub invariant-loop-literal : goal.invariant-loop-literal
invariant-loop-literal l = record {
  walk : IsMarking l.marks l.rest l.clause;
  stamp : l.marks.stamp ≡ l.fn.marks.stamp;
  below : IsBelow (l.fn.marks.stamp + 1) l.marks;
}

abbrev pub decreases-loop-literal : goal.decreases-loop-literal
decreases-loop-literal l = length l.rest
