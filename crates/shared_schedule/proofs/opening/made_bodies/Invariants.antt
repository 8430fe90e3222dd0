use Rattle.std.proofs.Common.{◌≡◌, ℕ, ◌<◌, false, length, get_or, Some, slice_get}
use Rattle.std.specs.Prelude.{IfOk}
use mathlib.Core.Option.{some}
use lib.ListN.{get_elem?}
use Rattle.std.specs.Slots.{slots_filled, slots_items, slots_len}
use Rattle.std.specs.Slots.Ownership.{Filled}
use Rattle.shared_schedule.specs.declared.slot.Slot.TheVariants.{Made}
use Rattle.shared_schedule.proofs.opening.made_bodies.Given as goal

abbrev pub invariant-loop-m : goal.invariant-loop-m
invariant-loop-m g l = record {
  slots : slots_len l.closed.slots ≡ slots_len l.fn.closed.slots;
  items : slots_items l.closed.slots ≡ slots_items l.fn.closed.slots;
  filled : Filled (slots_filled l.closed.slots) l.m (slots_len l.closed.slots);
  empty : (k : ℕ) → k < l.m → get_or (slots_filled l.closed.slots) k false ≡ false;
  len : IfOk l.bodies (λ v. length v.items ≡ l.m);
  bodies : IfOk l.bodies (λ v. (k : ℕ) (b : _) → slice_get v.items k ≡ Some b → (k < l.m) × (get_elem? (slots_items l.fn.closed.slots) k ≡ some (Made b)));
}
