-- What a worker's view says of the state of a schedule.
use Rattle.std.specs.Prelude.{◌≡◌, ℕ, ◌+◌, ◌≤◌, Bool, true, false, cond, ◌&&◌, ◌||◌, ◌==◌, List, [], ◌∷◌, ◌++◌, Option, Some, None, map}
use Rattle.sched_core.specs.declared.parts.Stage.{Stage}
use Rattle.sched_core.specs.declared.parts.Stage.TheVariants.{Waiting, Owed, Taken, Done}
use Rattle.sched_core.specs.Sums.{one_if}
use Rattle.sched_core.specs.State.{State, callee, IsEdge, is_emptied}
use Rattle.shared_schedule.specs.declared.plan.Plan.{Plan}
use Rattle.shared_schedule.specs.declared.view.Hold.{Hold}
use Rattle.shared_schedule.specs.declared.view.Hold.TheVariants.{Due, Begun, Over}
use Rattle.shared_schedule.specs.declared.view.TableSlot.TheVariants.{Nowhere}
use Rattle.shared_schedule.specs.declared.view.View.{View}

-- the lists of callees of a plan
abbrev pub callees_in : {P : Type 0} → Plan P → List (List ℕ)
callees_in plan = map (λ row. row.items) plan.callees.items

-- what the newest entry says of the module
abbrev pub last_move : List (ℕ × Hold) → ℕ → Option Hold
last_move [] m = None
last_move (x ∷ xs) m = cond (m == x.0) (Some x.1) (last_move xs m)

-- what a worker has to do with a module at this stage
abbrev pub hold_of : ℕ → Stage → Option Hold
hold_of w Waiting = None
hold_of w (Owed v) = cond (w == v) (Some Due) None
hold_of w (Taken v) = cond (w == v) (Some Begun) None
hold_of w (Done v) = cond (w == v) (Some Over) None

-- it owes it, has taken it or did it
abbrev pub is_held : Option Hold → Bool
is_held None = false
is_held (Some h) = true

-- it did it
abbrev pub is_over : Option Hold → Bool
is_over None = false
is_over (Some Due) = false
is_over (Some Begun) = false
is_over (Some Over) = true

-- how often the list says that the module is over
abbrev pub done_times : List (ℕ × Hold) → ℕ → ℕ
done_times [] m = 0
done_times (x ∷ xs) m = one_if ((m == x.0) && is_over (Some x.1)) + done_times xs m

-- the edge stands in the list
abbrev pub has_edge : List (ℕ × ℕ) → ℕ → ℕ → Bool
has_edge [] c i = false
has_edge (x ∷ xs) c i = ((c == x.0) && (i == x.1)) || has_edge xs c i

-- the worker's view is true
pub record Tells {P : Type 0} (s : State) (w : ℕ) (v : View P) : Type 0 where
  -- the newest entries say what it has to do with each module
  pub moves : (m : ℕ) → last_move v.moves m ≡ hold_of w (s.stage m)
  -- each module that it did is over once
  pub once : (m : ℕ) → done_times v.moves m ≡ one_if (is_over (hold_of w (s.stage m)))
  -- the emptied edges of the modules that it owes, has taken or did
  pub emptied : (c i : ℕ) → IsEdge s.callees c i → has_edge v.emptied c i ≡ (is_emptied (s.edge c i).fill && is_held (hold_of w (s.stage c)))
  -- the reported edges of the modules that it did
  pub told : (c i : ℕ) → IsEdge s.callees c i → has_edge v.told c i ≡ ((s.edge c i).reported && is_over (hold_of w (s.stage (callee s.callees c i))))
  pub passed : v.passed ≡ (s.worker w).passed
  pub here : (s.worker w).gone ≡ false
  pub splits : w ≡ 0 → v.splits ≡ s.splits
  pub shares : 1 ≤ v.shares

-- a worker's view of this plan is true; a worker without a plan has gone
abbrev pub ToldBy : {P : Type 0} → Plan P → State → ℕ → View P → Option (Plan P) → Type 0
ToldBy plan s w v None = ((s.worker w).gone ≡ true) × (v.out ≡ Nowhere)
ToldBy plan s w v (Some mine) = (mine ≡ plan) × Tells s w v

-- a new worker's view
abbrev pub new_view : {P : Type 0} → Option (Plan P) → View P
new_view plan = record { plan = plan; moves = []; emptied = []; told = []; passed = false; splits = 0; shares = 1; out = Nowhere }

-- the view of a worker that has gone
abbrev pub spent_view : {P : Type 0} → View P
spent_view = record { plan = None; moves = []; emptied = []; told = []; passed = false; splits = 0; shares = 0; out = Nowhere }

-- two views, put together
abbrev pub both_views : {P : Type 0} → View P → View P → View P
both_views v w = record v { moves = v.moves ++ w.moves; emptied = v.emptied ++ w.emptied; told = v.told ++ w.told; shares = v.shares + w.shares }
