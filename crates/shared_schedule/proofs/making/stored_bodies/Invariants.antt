use Rattle.std.proofs.Common.{◌≡◌, map}
use Rattle.shared_schedule.specs.declared.slot.Slot.TheVariants.{Stored}
use Rattle.shared_schedule.proofs.making.stored_bodies.Given as goal

abbrev pub invariant-loop-body : goal.invariant-loop-body
invariant-loop-body g l = l.slots.items ≡ map Stored l.yielded
