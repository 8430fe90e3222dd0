use Rattle.std.proofs.Common.{◌≡◌, ◌++◌, drop}
use Rattle.lrat_text.specs.Written.{literals_text}
use Rattle.lrat_text.proofs.write.push_literals.Given as goal

abbrev pub invariant-loop-literal : goal.invariant-loop-literal
invariant-loop-literal l = l.text ++ literals_text (drop l.literal-index l.literals) ≡ l.fn.text ++ literals_text l.literals
