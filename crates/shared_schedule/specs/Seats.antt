-- What a worker's seat is between calls, and when a worker is finished.
use Rattle.std.specs.Prelude.{◌≡◌, ℕ, true, false, List, [], ◌∷◌, Option, Some}
use Rattle.atomic_table.specs.Seated.{TableId}
use Rattle.atomic_table.specs.declared.shared.Seat.{Seat}
use Rattle.sched_core.specs.State.{callee, IsEdge}
use Rattle.shared_schedule.specs.declared.plan.Plan.{Plan}
use Rattle.shared_schedule.specs.declared.slot.Slot.{Slot}
use Rattle.shared_schedule.specs.declared.slot.Slot.TheVariants.{Copied}
use Rattle.shared_schedule.specs.declared.view.Hold.{Hold}
use Rattle.shared_schedule.specs.declared.view.Hold.TheVariants.{Due, Over}
use Rattle.shared_schedule.specs.declared.view.TableSlot.TheVariants.{Nowhere, Edge}
use Rattle.shared_schedule.specs.declared.view.View.{View}
use Rattle.shared_schedule.specs.Views.{callees_in, last_move, is_held, is_over, has_edge}
use Rattle.shared_schedule.specs.Rule.{edge_slot}

module _ {P B : Type 0} (position : TableId) (about : Plan P) (seat : Seat (Slot B) (View P)) where
  -- a seat of a worker of this plan at this table, with no slot out
  pub record IsIdle : Type 0 where
    pub table : seat.table_id ≡ position
    pub plan : seat.me.0.plan ≡ Some about
    pub out : seat.me.0.out ≡ Nowhere
    pub none : seat.me.1 ≡ []

  -- the same, with a copy in the slot of an edge that is out
  pub record HasCopy (c i : ℕ) (body : Option B) : Type 0 where
    pub table : seat.table_id ≡ position
    pub plan : seat.me.0.plan ≡ Some about
    pub out : seat.me.0.out ≡ Edge c i
    pub copy : seat.me.1 ≡ (edge_slot (callees_in about) c i, Copied body) ∷ []

-- the worker has done all that it came to owe, and reported every edge whose callee it did
pub record IsFinished {P : Type 0} (callees : List (List ℕ)) (v : View P) : Type 0 where
  pub over : (m : ℕ) (h : Hold) → last_move v.moves m ≡ Some h → h ≡ Over
  pub told : (c i : ℕ) → IsEdge callees c i → is_over (last_move v.moves (callee callees c i)) ≡ true → has_edge v.told c i ≡ true

-- what the lists of a true view say of each other
pub record Agrees {P : Type 0} (callees : List (List ℕ)) (v : View P) : Type 0 where
  -- a reported edge's callee is over
  pub told : (c i : ℕ) → IsEdge callees c i → has_edge v.told c i ≡ true → is_over (last_move v.moves (callee callees c i)) ≡ true
  -- a caller that came to be owed has every edge reported whose callee is over
  pub held : (c i : ℕ) → IsEdge callees c i → is_held (last_move v.moves c) ≡ true → is_over (last_move v.moves (callee callees c i)) ≡ true → has_edge v.told c i ≡ true
  -- no edge of a module that is owed is emptied
  pub due : (c i : ℕ) → IsEdge callees c i → last_move v.moves c ≡ Some Due → has_edge v.emptied c i ≡ false
