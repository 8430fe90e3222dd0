use Rattle.std.proofs.Common.{◌≡◌, []}
use Rattle.graphs.specs.Graphs.{lists_of, times_over}
use Rattle.graphs.proofs.order.empty_lists.Given as goal

abbrev pub invariant-loop : goal.invariant-loop
invariant-loop l = lists_of l.lists.items ≡ times_over l.counter []
