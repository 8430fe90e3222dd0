use Rattle.std.proofs.Common.{ℕ, ◌<◌}
use Rattle.wiring.specs.Wiring.{In}
use Rattle.graphs.proofs.order.all_numbers.Given as goal

abbrev pub invariant-loop-number : goal.invariant-loop-number
invariant-loop-number l = (v : ℕ) → v < l.number → In v l.numbers.items
