-- Runs: lists of events, each of which may come where it does.
use Rattle.std.specs.Prelude.{◌≡◌, ℕ, ◌+◌, ◌^◌, ◌<◌, true, ◌==◌, List, [], ◌∷◌, length}
use Rattle.wiring.specs.Wiring.{In, IsAcyclic}
use Rattle.sched_core.specs.declared.event.Event.{Event}
use Rattle.sched_core.specs.declared.event.Event.TheVariants.{Claim, Take, TakeEdge, PutDone, PutEdge, Report, Split, Join}
use Rattle.sched_core.specs.Sums.{one_if}
use Rattle.sched_core.specs.State.{State, callees_of, callee, IsEdge, is_done, IsFree}
use Rattle.sched_core.specs.Events.{May, step}

-- the lists of callees of a schedule: no module is its own callee, directly or through others, the callees are modules
-- of the list, and there are fewer than 2^32 modules and entries of each
pub record AreCallees (callees : List (List ℕ)) : Type 0 where
  pub acyclic : IsAcyclic (callees_of callees)
  pub within : (m k : ℕ) → In k (callees_of callees m) → k < length callees
  pub modules : length callees < 2 ^ 32
  pub entries : (m : ℕ) → length (callees_of callees m) < 2 ^ 32

-- each event of the list may come where it does
abbrev pub Allowed : State → List Event → Type 0
Allowed s [] = Unit {0}
Allowed s (e ∷ es) = May s e × Allowed (step s e) es

-- the state after a list of events
abbrev pub after : State → List Event → State
after s [] = s
after s (e ∷ es) = after (step s e) es

-- 1 for the event by which the module is done, 0 for others
abbrev pub completes : ℕ → Event → ℕ
completes m (Claim w) = 0
completes m (Take w k) = 0
completes m (TakeEdge w c i) = 0
completes m (PutDone w k) = one_if (m == k)
completes m (PutEdge w c i) = 0
completes m (Report w c i) = 0
completes m Split = 0
completes m (Join kept gone) = 0

-- how often the module was done in a list of events
abbrev pub times_done : ℕ → List Event → ℕ
times_done m [] = 0
times_done m (e ∷ es) = completes m e + times_done m es

-- nothing is owed or taken, and every edge whose callee is done is reported
pub record IsSettled (s : State) : Type 0 where
  pub free : (w : ℕ) → IsFree s w
  pub reported : (c i : ℕ) → IsEdge s.callees c i → is_done (s.stage (callee s.callees c i)) ≡ true → (s.edge c i).reported ≡ true
