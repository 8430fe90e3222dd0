use Rattle.std.proofs.Common.{◌≡◌, ◌++◌, take}
use Rattle.run_lists.specs.Runs.{expanded, AreApart}
use Rattle.run_lists.proofs.runs.push_list.Given as goal

abbrev pub invariant-loop-run : goal.invariant-loop-run
invariant-loop-run l = (expanded l.list.runs.items ≡ expanded l.fn.list.runs.items ++ expanded (take l.run-index l.run-items)) × AreApart l.list.runs.items
