use Rattle.std.proofs.Common.{◌≡◌, length}
use Rattle.std.specs.Prelude.{None}
use Rattle.lrat_text.specs.Marks.{is_marked, judged_by}
use Rattle.lrat_text.proofs.hints.judge.Given as goal

abbrev pub invariant-loop-literal : goal.invariant-loop-literal
invariant-loop-literal l = judged_by (is_marked l.marks) l.left l.rest ≡ judged_by (is_marked l.marks) None l.clause

abbrev pub decreases-loop-literal : goal.decreases-loop-literal
decreases-loop-literal l = length l.rest
