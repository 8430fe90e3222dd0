use Rattle.std.proofs.Common.{◌≡◌, length}
use Rattle.design_cycles.proofs.summaries.empty_summaries.Given as goal

abbrev pub invariant-loop : goal.invariant-loop
invariant-loop l = length l.summaries.items ≡ l.counter
