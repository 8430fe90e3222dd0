use Rattle.std.proofs.Common.{◌≡◌, take}
use Rattle.run_lists.proofs.runs.are_same.Given as goal

abbrev pub invariant-loop-position : goal.invariant-loop-position
invariant-loop-position l = take l.position l.first ≡ take l.position l.second
