use Rattle.std.proofs.Common.{◌≡◌, ℕ, ◌<◌, false, get_or}
use Rattle.std.specs.Slots.{slots_filled, slots_len}
use Rattle.std.specs.Slots.Ownership.{Filled}
use Rattle.shared_schedule.proofs.opening.drop_rest.Given as goal

abbrev pub invariant-loop-k : goal.invariant-loop-k
invariant-loop-k g l = record {
  slots : slots_len l.closed.slots ≡ slots_len l.fn.closed.slots;
  filled : Filled (slots_filled l.closed.slots) l.k (slots_len l.closed.slots);
  empty : (j : ℕ) → j < l.k → get_or (slots_filled l.closed.slots) j false ≡ false;
}
