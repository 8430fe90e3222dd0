use Rattle.std.proofs.Common.{◌≡◌}
use Rattle.flat_steps.specs.Tables.{no_words}
use Rattle.flat_steps.proofs.start.no_words.Given as goal

abbrev pub invariant-loop : goal.invariant-loop
invariant-loop l = l.words.items ≡ no_words l.counter
