use Rattle.std.proofs.Common.{◌≡◌, map, take}
use Rattle.lowering_rules.specs.Reading.{new_refs}
use Rattle.aggregate_lower.specs.Targets.{moved_ref}
use Rattle.aggregate_lower.proofs.places.moved_values.Given as goal

abbrev pub invariant-loop-value : goal.invariant-loop-value
invariant-loop-value l = new_refs l.moved.items ≡ map (moved_ref l.flags (new_refs l.targets)) (new_refs (take l.value-index l.values))
