use Rattle.std.proofs.Common.{◌≡◌, ◌++◌, replicate}
use Rattle.shared_schedule.specs.declared.slot.Slot.TheVariants.{Bare}
use Rattle.shared_schedule.proofs.making.with_bare.Given as goal

abbrev pub invariant-loop-edge : goal.invariant-loop-edge
invariant-loop-edge g l = l.slots.items ≡ l.fn.slots.items ++ replicate l._edge Bare
