-- The tables that a scheduler keeps, the state that they tell, and what holds of them.
use Rattle.std.specs.Prelude.{◌≡◌, ℕ, ◌+◌, ◌^◌, ◌<◌, false, cond, ◌==◌, List, [], length, slice_index_or}
use Rattle.sched_core.specs.declared.parts.Stage.{Stage}
use Rattle.sched_core.specs.declared.parts.Stage.TheVariants.{Waiting, Owed, Taken, Done}
use Rattle.sched_core.specs.declared.parts.Edge.{Edge}
use Rattle.sched_core.specs.declared.parts.Worker.{Worker}
use Rattle.sched_core.specs.State.{State, callees_of, leaves, new_edge, no_worker}
use Rattle.sched_core.specs.Sound.{Sound}
use Rattle.sched_core.specs.Counts.{uses_of, busy_of, untold_of}

-- What a scheduler keeps. A done module is marked with the worker that did it, and each worker has an heir: itself, or
-- once it has gone the worker to which what it did has passed.
pub record Table : Type 0 where
  -- each module's callees
  pub callees : List (List ℕ)
  -- the modules without callees, in order
  pub leaf_modules : List ℕ
  -- how many edges there are from each module
  pub uses : List ℕ
  -- where each module stands
  pub stages : List Stage
  -- each module's edges from its callees
  pub edges : List (List Edge)
  -- how many of them are not reported
  pub pending_edges : List ℕ
  -- how often a leaf was drawn
  pub leaf : ℕ
  -- how often the first worker has split
  pub splits : ℕ
  -- the 64 workers that there can be
  pub workers : List Worker
  -- each worker's heir
  pub heirs : List ℕ
  -- how many modules each worker owes or has taken
  pub busy : List ℕ
  -- how many edges each worker is still to report
  pub untold : List ℕ

-- the stage with the doer's heir for the doer; 64 is no worker
abbrev pub stage_with_heirs : List ℕ → Stage → Stage
stage_with_heirs heirs Waiting = Waiting
stage_with_heirs heirs (Owed w) = Owed w
stage_with_heirs heirs (Taken w) = Taken w
stage_with_heirs heirs (Done w) = Done (slice_index_or heirs w 64)

-- an heir after a worker has gone and another has kept what it did
abbrev pub heir_after : ℕ → ℕ → ℕ → ℕ
heir_after kept gone heir = cond (heir == gone) kept heir

-- the state that the tables tell
abbrev pub state_of : Table → State
state_of t = record {
  callees = t.callees;
  stage = λ m. stage_with_heirs t.heirs (slice_index_or t.stages m Waiting);
  edge = λ c i. slice_index_or (slice_index_or t.edges c []) i new_edge;
  pending_edges = λ c. slice_index_or t.pending_edges c 0;
  leaf = t.leaf;
  worker = λ w. slice_index_or t.workers w no_worker;
  workers = t.splits + 1;
  splits = t.splits;
}

-- the tables have a position for each module, each edge and each of 64 workers, and there are fewer than 2^32 modules and
-- entries of each
pub record HasPositions (t : Table) : Type 0 where
  pub stages : length t.stages ≡ length t.callees
  pub edges : length t.edges ≡ length t.callees
  pub rows : (c : ℕ) → length (slice_index_or t.edges c []) ≡ length (callees_of t.callees c)
  pub pending_edges : length t.pending_edges ≡ length t.callees
  pub uses : length t.uses ≡ length t.callees
  pub workers : length t.workers ≡ 64
  pub heirs : length t.heirs ≡ 64
  pub busy : length t.busy ≡ 64
  pub untold : length t.untold ≡ 64
  pub modules : length t.callees < 2 ^ 32
  pub entries : (m : ℕ) → length (callees_of t.callees m) < 2 ^ 32

-- what holds of the tables at every moment
pub record IsKept (t : Table) : Type 0 where
  pub positions : HasPositions t
  -- the state is sound
  pub sound : Sound (state_of t)
  -- the leaves and the uses are those of the callees
  pub leaf_modules : t.leaf_modules ≡ leaves t.callees
  pub uses : (m : ℕ) → m < length t.callees → slice_index_or t.uses m 0 ≡ uses_of t.callees m
  -- a worker that has not gone is its own heir
  pub own : (w : ℕ) → w < 64 → (w < t.splits + 1 → (slice_index_or t.workers w no_worker).gone ≡ false) → slice_index_or t.heirs w 64 ≡ w
  -- the counts of the workers are those of the state
  pub busy : (w : ℕ) → w < 64 → slice_index_or t.busy w 0 ≡ busy_of (state_of t) w
  pub untold : (w : ℕ) → w < 64 → slice_index_or t.untold w 0 ≡ untold_of (state_of t) w
