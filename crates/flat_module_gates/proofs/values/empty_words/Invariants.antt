use Rattle.std.proofs.Common.{◌≡◌}
use Rattle.flat_module_gates.specs.FlatGateLists.{no_words}
use Rattle.flat_module_gates.proofs.values.empty_words.Given as goal

abbrev pub invariant-loop : goal.invariant-loop
invariant-loop l = l.words.items ≡ no_words l.counter
