-- What a worker's loop keeps: its view against its queue.
use Rattle.std.specs.Prelude.{◌≡◌, ℕ, ◌+◌, ◌<◌, Bool, true, false, not, ◌&&◌, ◌==◌, nat_lt, List, [], ◌∷◌, Option, Some, None, length}
use Rattle.sched_core.specs.Sums.{sum_below, one_if}
use Rattle.sched_core.specs.State.{callees_of, callee, IsEdge}
use Rattle.shared_schedule.specs.declared.view.Hold.{Hold}
use Rattle.shared_schedule.specs.declared.view.Hold.TheVariants.{Due, Begun, Over}
use Rattle.shared_schedule.specs.declared.view.TableSlot.TheVariants.{Nowhere}
use Rattle.atomic_table.specs.Seated.{TableId}
use Rattle.atomic_table.specs.declared.shared.Seat.{Seat}
use Rattle.shared_schedule.specs.declared.plan.Plan.{Plan}
use Rattle.shared_schedule.specs.declared.slot.Slot.{Slot}
use Rattle.shared_schedule.specs.declared.view.View.{View}
use Rattle.shared_schedule.specs.Seats.{IsIdle, IsFinished}
use Rattle.shared_schedule.specs.Views.{callees_in, last_move, is_held, is_over, has_edge}

-- how often the number stands in the list
abbrev pub times : ℕ → List ℕ → ℕ
times m [] = 0
times m (x ∷ xs) = one_if (m == x) + times m xs

-- how often the edge stands in the list
abbrev pub edge_times : List (ℕ × ℕ) → ℕ → ℕ → ℕ
edge_times [] c i = 0
edge_times (x ∷ xs) c i = one_if ((c == x.0) && (i == x.1)) + edge_times xs c i

-- the module is owed
abbrev pub is_due : Option Hold → Bool
is_due None = false
is_due (Some Due) = true
is_due (Some Begun) = false
is_due (Some Over) = false

-- there is an edge at this position of the caller's list, and it goes from this callee
abbrev pub goes_from : List (List ℕ) → ℕ → ℕ → ℕ → Bool
goes_from callees m c i = nat_lt i (length (callees_of callees c)) && (callee callees c i == m)

-- the list has each edge from this callee once, and no other
abbrev pub AreCallersOf : List (List ℕ) → ℕ → List (ℕ × ℕ) → Type 0
AreCallersOf callees m edges = (c i : ℕ) → edge_times edges c i ≡ one_if (goes_from callees m c i)

module _ {P : Type 0} (callees : List (List ℕ)) (v : View P) where
  -- between two modules: none is begun, those of the queue are owed, and every edge whose callee is over is reported
  pub record IsBetween (queue : List ℕ) : Type 0 where
    pub begun : (m : ℕ) → last_move v.moves m ≡ Some Begun → ⊥
    pub owed : (m : ℕ) → times m queue ≡ one_if (is_due (last_move v.moves m))
    pub within : (m : ℕ) → is_due (last_move v.moves m) ≡ true → m < length callees
    pub told : (c i : ℕ) → IsEdge callees c i → is_over (last_move v.moves (callee callees c i)) ≡ true → has_edge v.told c i ≡ true

  -- one module is over and some of its edges are still to be reported
  pub record IsTelling (queue : List ℕ) (m : ℕ) (rest : List (ℕ × ℕ)) : Type 0 where
    pub over : is_over (last_move v.moves m) ≡ true
    pub begun : (k : ℕ) → last_move v.moves k ≡ Some Begun → ⊥
    pub owed : (k : ℕ) → times k queue ≡ one_if (is_due (last_move v.moves k))
    pub within : (k : ℕ) → is_due (last_move v.moves k) ≡ true → k < length callees
    pub told : (c i : ℕ) → IsEdge callees c i → is_over (last_move v.moves (callee callees c i)) ≡ true → (callee callees c i ≡ m → ⊥) → has_edge v.told c i ≡ true
    pub untold : (c i : ℕ) → edge_times rest c i + one_if (has_edge v.told c i && goes_from callees m c i) ≡ one_if (goes_from callees m c i)

  -- how many modules are not over
  abbrev pub open_modules : ℕ
  open_modules = sum_below (length callees) (λ m. one_if (not (is_over (last_move v.moves m))))

-- what a view keeps while its worker goes on
pub record GoesOn {P : Type 0} (v after : View P) : Type 0 where
  pub passed : after.passed ≡ v.passed
  pub splits : after.splits ≡ v.splits
  pub shares : after.shares ≡ v.shares
  pub held : (m : ℕ) → is_held (last_move v.moves m) ≡ true → is_held (last_move after.moves m) ≡ true
  pub over : (m : ℕ) → is_over (last_move v.moves m) ≡ true → is_over (last_move after.moves m) ≡ true

-- the edges of the module are emptied, and nothing else changes
pub record IsEmptied {P : Type 0} (callees : List (List ℕ)) (m : ℕ) (v after : View P) : Type 0 where
  pub same : after ≡ record v { emptied = after.emptied; out = Nowhere }
  pub all : (i : ℕ) → IsEdge callees m i → has_edge after.emptied m i ≡ true

-- a worker that may begin
pub record IsReady {P B : Type 0} (position : TableId) (about : Plan P) (seat : Seat (Slot B) (View P)) : Type 0 where
  pub idle : IsIdle position about seat
  pub unpassed : seat.me.0.passed ≡ false
  pub between : IsBetween (callees_in about) seat.me.0 []

-- a worker that has finished and drawn past the leaves, and has split and gathered so many others
pub record IsDone {P B : Type 0} (position : TableId) (about : Plan P) (before after : Seat (Slot B) (View P)) (others : ℕ) : Type 0 where
  pub idle : IsIdle position about after
  pub id : after.id ≡ before.id
  pub passed : after.me.0.passed ≡ true
  pub finished : IsFinished (callees_in about) after.me.0
  pub splits : after.me.0.splits ≡ before.me.0.splits + others
  pub shares : after.me.0.shares ≡ before.me.0.shares + others
