-- Counts over the modules and the edges of a schedule.
use Rattle.std.specs.Prelude.{ℕ, Bool, not, ◌&&◌, ◌==◌, List, length, slice_index_or}
use Rattle.sched_core.specs.Sums.{sum_below, one_if}
use Rattle.sched_core.specs.State.{State, callees_of, callee, is_busy_with, is_done_by}

-- the sum of f c i over the edges (c, i)
abbrev pub sum_edges : List (List ℕ) → (ℕ → ℕ → ℕ) → ℕ
sum_edges callees f = sum_below (length callees) (λ c. sum_below (length (callees_of callees c)) (f c))

-- how many entries of a list are this number
abbrev pub times_in : List ℕ → ℕ → ℕ
times_in row m = sum_below (length row) (λ i. one_if (slice_index_or row i 0 == m))

-- how many edges there are from this callee
abbrev pub uses_of : List (List ℕ) → ℕ → ℕ
uses_of callees m = sum_edges callees (λ c i. one_if (callee callees c i == m))

-- how many modules are owed to the worker or taken by it
abbrev pub busy_of : State → ℕ → ℕ
busy_of s w = sum_below (length s.callees) (λ m. one_if (is_busy_with w (s.stage m)))

-- the worker did the edge's callee, and the edge is not reported
abbrev pub is_untold : State → ℕ → ℕ → ℕ → Bool
is_untold s w c i = not (s.edge c i).reported && is_done_by w (s.stage (callee s.callees c i))

-- how many edges the worker is still to report
abbrev pub untold_of : State → ℕ → ℕ
untold_of s w = sum_edges s.callees (λ c i. one_if (is_untold s w c i))
