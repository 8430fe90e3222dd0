use Rattle.std.proofs.Common.{◌≡◌, ◌++◌, length}
use Rattle.lrat_text.specs.Written.{hints_text}
use Rattle.lrat_text.proofs.write.push_hints.Given as goal

abbrev pub invariant-loop-last : goal.invariant-loop-last
invariant-loop-last l = l.text ++ hints_text l.rest ≡ l.fn.text ++ hints_text l.hints

abbrev pub decreases-loop-last : goal.decreases-loop-last
decreases-loop-last l = length l.rest
