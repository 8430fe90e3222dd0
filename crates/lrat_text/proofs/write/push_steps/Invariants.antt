use Rattle.std.proofs.Common.{◌≡◌, ◌+◌, ◌++◌, drop}
use Rattle.lrat_text.specs.Written.{step_lines}
use Rattle.lrat_text.proofs.write.push_steps.Given as goal

abbrev pub invariant-loop-i : goal.invariant-loop-i
invariant-loop-i l = l.text ++ step_lines (l.last + 1 + l.i) (drop l.i l.steps) ≡ l.fn.text ++ step_lines (l.last + 1) l.steps
