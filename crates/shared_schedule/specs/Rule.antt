-- The rule of the shared table: what holds between any two steps.
use Rattle.std.specs.Prelude.{◌≡◌, ℕ, ◌+◌, ◌<◌, Bool, true, false, cond, List, Option, length, slice_index, sum_by}
use mathlib.Core.Option.{none, some}
use lib.ListN.{get_elem?}
use Rattle.atomic_table.specs.Table as table
use Rattle.sched_core.specs.declared.parts.Stage.{Stage}
use Rattle.sched_core.specs.declared.parts.Stage.TheVariants.{Waiting, Owed, Taken, Done}
use Rattle.sched_core.specs.declared.parts.Fill.{Fill}
use Rattle.sched_core.specs.declared.parts.Fill.TheVariants.{Empty, Full, Emptied}
use Rattle.sched_core.specs.Sums.{sum_below}
use Rattle.sched_core.specs.State.{State, callees_of, callee, IsEdge}
use Rattle.sched_core.specs.Sound.{Sound}
use Rattle.sched_core.specs.Runs.{AreCallees}
use Rattle.shared_schedule.specs.declared.plan.Plan.{Plan}
use Rattle.shared_schedule.specs.declared.slot.Slot.{Slot}
use Rattle.shared_schedule.specs.declared.slot.Slot.TheVariants.{Stored, Away, Made, Bare, Copied, Cleared}
use Rattle.shared_schedule.specs.declared.view.TableSlot.{TableSlot}
use Rattle.shared_schedule.specs.declared.view.TableSlot.TheVariants.{Body, Edge}
use Rattle.shared_schedule.specs.declared.view.View.{View}
use Rattle.shared_schedule.specs.Views.{callees_in, hold_of, is_held, is_over, ToldBy}

-- how many edges the first c callers have
abbrev pub edges_below : List (List ℕ) → ℕ → ℕ
edges_below callees c = sum_below c (λ k. length (callees_of callees k))

-- the number of the slot of an edge
abbrev pub edge_slot : List (List ℕ) → ℕ → ℕ → ℕ
edge_slot callees c i = length callees + (edges_below callees c + i)

-- the number of slots
abbrev pub slots_of : List (List ℕ) → ℕ
slots_of callees = length callees + edges_below callees (length callees)

-- the worker that may have an edge's slot: the one that works the caller once the edge is reported, before that the one
-- that did the callee
abbrev pub handles_edge : State → ℕ → ℕ → ℕ → Bool
handles_edge s c i w = cond (s.edge c i).reported (is_held (hold_of w (s.stage c))) (is_over (hold_of w (s.stage (callee s.callees c i))))

-- the worker that may have a module's slot
abbrev pub handles_body : State → ℕ → ℕ → Bool
handles_body s m w = is_held (hold_of w (s.stage m))

-- a slot is at home and fits, or it is out with a worker that may have it
pub data Lies {S P : Type 0} (fits : S → Type 0) (handles : ℕ → Bool) (position : TableSlot) (homes : List (mathlib.Core.Option.Option S)) (k : ℕ) (views : List (View P)) : Type 0 where
  home : (y : S) → get_elem? homes k ≡ some (some y) → fits y → Lies fits handles position homes k views
  out : get_elem? homes k ≡ some none → (w : ℕ) → (v : View P) → get_elem? views w ≡ some v → v.out ≡ position → handles w ≡ true → Lies fits handles position homes k views

module _ {P B : Type 0} (first finished : P → ℕ → B → Type 0) (copied : P → ℕ → Option B → Type 0) where
  -- what may lie in the slot of a module at a stage
  abbrev pub BodyFits : P → ℕ → Stage → Slot B → Type 0
  BodyFits p m Waiting y = (b : B) × (y ≡ Stored b) × first p m b
  BodyFits p m (Owed w) y = (b : B) × (y ≡ Stored b) × first p m b
  BodyFits p m (Taken w) y = y ≡ Away
  BodyFits p m (Done w) y = (b : B) × (y ≡ Made b) × finished p m b

  -- what may lie in the slot of an edge from this callee
  abbrev pub EdgeFits : P → ℕ → Fill → Slot B → Type 0
  EdgeFits p k Empty y = y ≡ Bare
  EdgeFits p k Full y = (o : Option B) × (y ≡ Copied o) × copied p k o
  EdgeFits p k Emptied y = y ≡ Cleared

  -- the table shows this state
  pub record Shows (plan : Plan P) (t : table.State (Slot B) (View P)) (s : State) : Type 0 where
    pub callees : s.callees ≡ callees_in plan
    pub lists : AreCallees s.callees
    pub sound : Sound s
    -- an edge that is not reported is empty: a copy is put there with the report
    pub unput : (c i : ℕ) → IsEdge s.callees c i → (s.edge c i).reported ≡ false → (s.edge c i).fill ≡ Empty
    -- word 0 counts the draws, and word c + 1 the pending edges of c
    pub wide : length t.words ≡ length s.callees + 1
    pub leaf : slice_index t.words 0 ≡ s.leaf
    pub pending : (c : ℕ) → c < length s.callees → slice_index t.words (c + 1) ≡ s.pending_edges c
    -- the workers are those that have come, and each one's view is true
    pub come : length t.views ≡ s.workers
    pub shares : sum_by (λ v. v.shares) t.views ≡ s.workers
    pub told : (w : ℕ) (v : View P) → get_elem? t.views w ≡ some v → ToldBy plan s w v v.plan
    pub homes : length t.homes ≡ slots_of s.callees
    pub bodies : (m : ℕ) → m < length s.callees → Lies (BodyFits plan.pieces m (s.stage m)) (handles_body s m) (Body m) t.homes m t.views
    pub edges : (c i : ℕ) → IsEdge s.callees c i
        → Lies (EdgeFits plan.pieces (callee s.callees c i) (s.edge c i).fill) (handles_edge s c i) (Edge c i) t.homes (edge_slot s.callees c i) t.views

  -- the table shows a sound state of the plan's schedule
  abbrev pub Rule : Plan P → table.State (Slot B) (View P) → Type 0
  Rule plan t = (s : State) × Shows plan t s
