use Rattle.std.proofs.Common.{◌≡◌, map, take}
use Rattle.inline_pass.specs.Destinations.{value_there}
use Rattle.inline_pass.proofs.moved_ops.Destinations.all_moved.Given as goal

abbrev pub invariant-loop-value : goal.invariant-loop-value
invariant-loop-value l = l.all.items ≡ map (value_there l.self) (take l.value-index l.values)
