-- What each step of a worker changes in its view, and what it tells.
use Rattle.std.specs.Prelude.{◌≡◌, ℕ, ◌+◌, Bool, true, cond, ◌==◌, ◌∷◌, Option, Some, None, slice_get}
use Rattle.atomic_table.specs.Table.{Step, Me, rest}
use Rattle.sched_core.specs.State.{callee, leaves}
use Rattle.shared_schedule.specs.declared.plan.Plan.{Plan}
use Rattle.shared_schedule.specs.declared.slot.Slot.{Slot}
use Rattle.shared_schedule.specs.declared.slot.Slot.TheVariants.{Stored, Away, Bare, Copied}
use Rattle.shared_schedule.specs.declared.view.Hold.{Hold}
use Rattle.shared_schedule.specs.declared.view.Hold.TheVariants.{Due, Begun, Over}
use Rattle.shared_schedule.specs.declared.view.TableSlot.TheVariants.{Nowhere, Body, Edge}
use Rattle.shared_schedule.specs.declared.view.View.{View}
use Rattle.shared_schedule.specs.Views.{callees_in, last_move}
use Rattle.shared_schedule.specs.Rule.{edge_slot}
use Rattle.shared_schedule.specs.Seats.{Agrees}

module _ {P : Type 0} where
  -- the view with one more move
  abbrev pub moved : View P → ℕ → Hold → View P
  moved v m h = record v { moves = (m, h) ∷ v.moves; out = Nowhere }

  -- after a draw: a leaf is owed, or the leaves are passed
  abbrev pub drawn : View P → Option ℕ → View P
  drawn v (Some m) = record v { moves = (m, Due) ∷ v.moves }
  drawn v None = record v { passed = true }

  -- with a slot out
  abbrev pub lent_body : View P → ℕ → View P
  lent_body v m = record v { out = Body m }

  abbrev pub lent_edge : View P → ℕ → ℕ → View P
  lent_edge v c i = record v { out = Edge c i }

  -- with one more emptied edge
  abbrev pub cleared : View P → ℕ → ℕ → View P
  cleared v c i = record v { emptied = (c, i) ∷ v.emptied; out = Nowhere }

  -- with one more reported edge; at the caller's last one the caller is owed
  abbrev pub reported : View P → ℕ → ℕ → Bool → View P
  reported v c i last = record v { told = (c, i) ∷ v.told; moves = cond last ((c, Due) ∷ v.moves) v.moves; out = Nowhere }

module _ {P B : Type 0} (first : P → ℕ → B → Type 0) (copied : P → ℕ → Option B → Type 0) where
  -- a draw: of a leaf with which the worker had nothing to do, or past the leaves
  abbrev pub Draws : Step (Slot B) → Me (Slot B) (View P) → ℕ → Me (Slot B) (View P) → Type 0
  Draws step me n after = (plan : Plan P) → me.0.plan ≡ Some plan
      → (after ≡ (drawn me.0 (slice_get (leaves (callees_in plan)) n), me.1)) × ((m : ℕ) → slice_get (leaves (callees_in plan)) n ≡ Some m → last_move me.0.moves m ≡ None)

  -- nothing changes, and the lists of the view agree
  abbrev pub Looks : Step (Slot B) → Me (Slot B) (View P) → ℕ → Me (Slot B) (View P) → Type 0
  Looks step me n after = (plan : Plan P) → me.0.plan ≡ Some plan → (after ≡ me) × Agrees (callees_in plan) me.0

  -- what is in the slot of a module that the worker owes or has taken
  abbrev pub BodyIs : P → ℕ → Option Hold → Slot B → Type 0
  BodyIs p m None y = Unit {0}
  BodyIs p m (Some Due) y = (b : B) × (y ≡ Stored b) × first p m b
  BodyIs p m (Some Begun) y = y ≡ Away
  BodyIs p m (Some Over) y = Unit {0}

  -- the module's slot is taken
  abbrev pub LendsBody : Step (Slot B) → Me (Slot B) (View P) → ℕ → Me (Slot B) (View P) → Type 0
  LendsBody step me n after = (plan : Plan P) → me.0.plan ≡ Some plan → (m : ℕ) → step.word ≡ m + 1
      → (y : Slot B) × (after ≡ (lent_body me.0 m, (m, y) ∷ me.1)) × BodyIs plan.pieces m (last_move me.0.moves m) y

  -- the module's slot is given back, and the module is begun or over
  abbrev pub GivesBody : Hold → Step (Slot B) → Me (Slot B) (View P) → ℕ → Me (Slot B) (View P) → Type 0
  GivesBody h step me n after = (m : ℕ) → me.0.out ≡ Body m → after ≡ (moved me.0 m h, rest me.1)

  -- the slot of an edge is taken, with a copy in it
  abbrev pub LendsCopy : Step (Slot B) → Me (Slot B) (View P) → ℕ → Me (Slot B) (View P) → Type 0
  LendsCopy step me n after = (plan : Plan P) → me.0.plan ≡ Some plan → (c i : ℕ) → step.word ≡ c + 1 → step.first ≡ i
      → (o : Option B) × (after ≡ (lent_edge me.0 c i, (edge_slot (callees_in plan) c i, Copied o) ∷ me.1)) × copied plan.pieces (callee (callees_in plan) c i) o

  -- the slot of an edge is taken, with nothing in it
  abbrev pub LendsBare : Step (Slot B) → Me (Slot B) (View P) → ℕ → Me (Slot B) (View P) → Type 0
  LendsBare step me n after = (plan : Plan P) → me.0.plan ≡ Some plan → (c i : ℕ) → step.word ≡ c + 1 → step.first ≡ i
      → after ≡ (lent_edge me.0 c i, (edge_slot (callees_in plan) c i, Bare) ∷ me.1)

  -- the slot of an emptied edge is given back
  abbrev pub GivesEdge : Step (Slot B) → Me (Slot B) (View P) → ℕ → Me (Slot B) (View P) → Type 0
  GivesEdge step me n after = (c i : ℕ) → me.0.out ≡ Edge c i → after ≡ (cleared me.0 c i, rest me.1)

  -- the slot of an edge is given back with a copy in it, and the edge is reported
  abbrev pub Reports : Step (Slot B) → Me (Slot B) (View P) → ℕ → Me (Slot B) (View P) → Type 0
  Reports step me n after = (c i : ℕ) → me.0.out ≡ Edge c i → after ≡ (reported me.0 c i (n == 1), rest me.1)

-- the view of a worker that has split
abbrev pub split_view : {P : Type 0} → View P → View P
split_view v = record v { splits = v.splits + 1 }
