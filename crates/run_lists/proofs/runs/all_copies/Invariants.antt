use Rattle.std.proofs.Common.{◌≡◌}
use Rattle.run_lists.specs.Runs.{expanded, AreApart, many}
use Rattle.run_lists.proofs.runs.all_copies.Given as goal

abbrev pub invariant-loop : goal.invariant-loop
invariant-loop l = (expanded l.list.runs.items ≡ many l.counter (expanded l.one.runs.items)) × AreApart l.list.runs.items
