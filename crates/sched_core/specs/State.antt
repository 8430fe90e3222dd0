-- The state of a schedule: modules, the edges from callees to callers, and workers.
use Rattle.std.specs.Prelude.{◌≡◌, ℕ, ◌+◌, ◌<◌, Bool, true, false, ◌==◌, List, [], ◌∷◌, length, slice_index_or}
use Rattle.sched_core.specs.declared.parts.Stage.{Stage}
use Rattle.sched_core.specs.declared.parts.Stage.TheVariants.{Waiting, Owed, Taken, Done}
use Rattle.sched_core.specs.declared.parts.Fill.{Fill}
use Rattle.sched_core.specs.declared.parts.Fill.TheVariants.{Empty, Full, Emptied}
use Rattle.sched_core.specs.declared.parts.Edge.{Edge}
use Rattle.sched_core.specs.declared.parts.Worker.{Worker}
use Rattle.sched_core.specs.Sums.{put}

-- The state of a schedule. Modules are numbered from 0. The edge (c, i) goes to the caller c from the i-th entry of its
-- list of callees. Workers are numbered as they come.
pub record State : Type 0 where
  -- each module's callees, one entry for each instance
  pub callees : List (List ℕ)
  -- where each module stands
  pub stage : ℕ → Stage
  -- each edge, by its caller and its position
  pub edge : ℕ → ℕ → Edge
  -- how many edges of each caller are not reported
  pub pending_edges : ℕ → ℕ
  -- how often a leaf was drawn
  pub leaf : ℕ
  -- each worker
  pub worker : ℕ → Worker
  -- how many workers have come, those that have gone counted
  pub workers : ℕ
  -- how often the first worker has split
  pub splits : ℕ

-- the callees of a module
abbrev pub callees_of : List (List ℕ) → ℕ → List ℕ
callees_of callees m = slice_index_or callees m []

-- the callee of an edge
abbrev pub callee : List (List ℕ) → ℕ → ℕ → ℕ
callee callees c i = slice_index_or (callees_of callees c) i 0

-- there is an edge at this position of the caller's list
abbrev pub IsEdge : List (List ℕ) → ℕ → ℕ → Type 0
IsEdge callees c i = i < length (callees_of callees c)

-- the modules from the number k on that have no callees, in order
abbrev pub leaves_from : ℕ → List (List ℕ) → List ℕ
leaves_from k [] = []
leaves_from k ([] ∷ rest) = k ∷ leaves_from (k + 1) rest
leaves_from k ((_ ∷ _) ∷ rest) = leaves_from (k + 1) rest

-- the leaves: the modules without callees, in order
abbrev pub leaves : List (List ℕ) → List ℕ
leaves callees = leaves_from 0 callees

-- no worker has come to the module
abbrev pub is_waiting : Stage → Bool
is_waiting Waiting = true
is_waiting (Owed w) = false
is_waiting (Taken w) = false
is_waiting (Done w) = false

-- a worker has taken the module's body, and may have put the finished one
abbrev pub is_begun : Stage → Bool
is_begun Waiting = false
is_begun (Owed w) = false
is_begun (Taken w) = true
is_begun (Done w) = true

-- the module's finished body was put
abbrev pub is_done : Stage → Bool
is_done Waiting = false
is_done (Owed w) = false
is_done (Taken w) = false
is_done (Done w) = true

-- the module is owed to this worker, taken or done by it
abbrev pub is_held_by : ℕ → Stage → Bool
is_held_by w Waiting = false
is_held_by w (Owed v) = w == v
is_held_by w (Taken v) = w == v
is_held_by w (Done v) = w == v

-- the module is owed to this worker or taken by it
abbrev pub is_busy_with : ℕ → Stage → Bool
is_busy_with w Waiting = false
is_busy_with w (Owed v) = w == v
is_busy_with w (Taken v) = w == v
is_busy_with w (Done v) = false

-- the module is done by this worker
abbrev pub is_done_by : ℕ → Stage → Bool
is_done_by w Waiting = false
is_done_by w (Owed v) = false
is_done_by w (Taken v) = false
is_done_by w (Done v) = w == v

-- nothing was put on the edge
abbrev pub is_empty : Fill → Bool
is_empty Empty = true
is_empty Full = false
is_empty Emptied = false

-- a copy stands on the edge
abbrev pub is_full : Fill → Bool
is_full Empty = false
is_full Full = true
is_full Emptied = false

-- the copy was taken from the edge
abbrev pub is_emptied : Fill → Bool
is_emptied Empty = false
is_emptied Full = false
is_emptied Emptied = true

-- the worker has come and has not gone
abbrev pub IsThere : State → ℕ → Type 0
IsThere s w = (w < s.workers) × ((s.worker w).gone ≡ false)

-- nothing is owed to the worker or taken by it
abbrev pub IsFree : State → ℕ → Type 0
IsFree s w = (m : ℕ) → is_busy_with w (s.stage m) ≡ false

-- every edge whose callee the worker did is reported
abbrev pub HasReported : State → ℕ → Type 0
HasReported s w = (c i : ℕ) → IsEdge s.callees c i → is_done_by w (s.stage (callee s.callees c i)) ≡ true → (s.edge c i).reported ≡ true

-- an edge on which nothing has happened
abbrev pub new_edge : Edge
new_edge = record { fill = Empty; reported = false }

-- a worker that has just come
abbrev pub new_worker : Worker
new_worker = record { passed = false; gone = false }

-- a worker that has not come
abbrev pub no_worker : Worker
no_worker = record { passed = false; gone = true }

-- the state before any event: all modules wait, all edges are empty, and the first worker is there
abbrev pub first : List (List ℕ) → State
first callees = record {
  callees = callees;
  stage = λ m. Waiting;
  edge = λ c i. new_edge;
  pending_edges = λ c. length (callees_of callees c);
  leaf = 0;
  worker = put 0 new_worker (λ w. no_worker);
  workers = 1;
  splits = 0;
}
