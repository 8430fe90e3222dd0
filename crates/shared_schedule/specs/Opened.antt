-- The words and the slots of a new table.
use Rattle.std.specs.Prelude.{◌≡◌, ℕ, ◌+◌, ◌<◌, ◌≤◌, List, length, slice_index}
use mathlib.Core.Option.{some}
use lib.ListN.{get_elem?}
use Rattle.sched_core.specs.State.{callees_of}
use Rattle.shared_schedule.specs.declared.slot.Slot.{Slot}
use Rattle.shared_schedule.specs.declared.slot.Slot.TheVariants.{Stored, Bare}
use Rattle.shared_schedule.specs.Rule.{slots_of}

-- no leaf is drawn, and each caller's edges are pending
pub record AreFirstWords (callees : List (List ℕ)) (words : List ℕ) : Type 0 where
  pub wide : length words ≡ length callees + 1
  pub leaf : slice_index words 0 ≡ 0
  pub pending : (c : ℕ) → c < length callees → slice_index words (c + 1) ≡ length (callees_of callees c)

-- each module's first body is there, and the edges are bare
pub record AreFirstSlots {P B : Type 0} (first : P → ℕ → B → Type 0) (callees : List (List ℕ)) (pieces : P) (slots : List (Slot B)) : Type 0 where
  pub long : length slots ≡ slots_of callees
  pub stored : (m : ℕ) → m < length callees → (b : B) × (get_elem? slots m ≡ some (Stored b)) × first pieces m b
  pub bare : (k : ℕ) → length callees ≤ k → k < slots_of callees → get_elem? slots k ≡ some Bare
