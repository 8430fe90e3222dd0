use Rattle.std.proofs.Common.{◌≡◌, ◌++◌, map}
use Rattle.edit_laws.specs.Edit.{retarget}
use Rattle.lowering_rules.specs.Made.{made_in}
use Rattle.lowering_rules.specs.Reading.{new_refs}
use Rattle.aggregate_lower.specs.Targets.{moved_ref}
use Rattle.aggregate_lower.proofs.places.moved_ops.Given as goal

abbrev pub invariant-loop-op : goal.invariant-loop-op
invariant-loop-op l =
    made_in l.moved.items ++ map (retarget (moved_ref l.flags (new_refs l.targets))) (made_in l.op-iterator.rest.items)
    ≡ map (retarget (moved_ref l.flags (new_refs l.targets))) (made_in l.fn.kept.items)
