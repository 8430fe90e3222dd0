use Rattle.std.proofs.Common.{◌≡◌, ◌++◌, map, take}
use Rattle.lowering_rules.specs.Made.{made_in}
use Rattle.lowering_rules.specs.Reading.{new_refs}
use Rattle.aggregate_lower.specs.MadeBodies.{carried_ref}
use Rattle.aggregate_lower.proofs.made.push_carried.Given as goal

abbrev pub invariant-loop-wire : goal.invariant-loop-wire
invariant-loop-wire l = new_refs l.targets.items ≡ new_refs l.fn.targets.items ++ map carried_ref (made_in (take l.wire-index l.wires))
