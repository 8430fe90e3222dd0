use Rattle.std.proofs.Common.{◌≡◌, min, take}
use Rattle.wiring.specs.Lists.{total}
use Rattle.run_lists.specs.Runs.{expanded}
use Rattle.run_lists.proofs.runs.total_of.Given as goal

abbrev pub invariant-loop-run : goal.invariant-loop-run
invariant-loop-run l = l.sum ≡ min (total (expanded (take l.run-index l.run-items))) 18446744073709551615
