use Rattle.std.proofs.Common.{◌≡◌, ◌++◌, drop}
use Rattle.cycle_sim.specs.RunLines.{more_words}
use Rattle.cycle_sim.proofs.lines.push_more.Given as goal

abbrev pub invariant-loop-word : goal.invariant-loop-word
invariant-loop-word l = l.text ++ more_words (drop l.word-index l.words) ≡ l.fn.text ++ more_words l.words
