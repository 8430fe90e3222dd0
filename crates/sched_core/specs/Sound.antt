-- What holds of a schedule at every moment. Facts on all workers are sums over them.
use Rattle.std.specs.Prelude.{◌≡◌, ℕ, ◌+◌, ◌-◌, ◌<◌, ◌≤◌, true, false, not, nat_lt, nat_le, Some, length, slice_get}
use Rattle.sched_core.specs.declared.parts.Stage.{Stage}
use Rattle.sched_core.specs.Sums.{sum_below, one_if}
use Rattle.sched_core.specs.State.{State, callees_of, callee, IsEdge, leaves, is_waiting, is_begun, is_done, is_held_by, is_empty, is_full, is_emptied, IsThere}

-- how many edges of the caller are not reported
abbrev pub unreported_edges : State → ℕ → ℕ
unreported_edges s c = sum_below (length (callees_of s.callees c)) (λ i. one_if (not (s.edge c i).reported))

-- how many of the first n workers have something to do with a module at this stage: owe it, took it or did it
abbrev pub holders : ℕ → Stage → ℕ
holders n stage = sum_below n (λ w. one_if (is_held_by w stage))

-- how many workers drew past the leaves
abbrev pub passed_workers : State → ℕ
passed_workers s = sum_below s.workers (λ w. one_if (s.worker w).passed)

-- a sound state
pub record Sound (s : State) : Type 0 where
  -- a caller's pending number is that of its edges that are not reported
  pub pending_edges : (c : ℕ) → s.pending_edges c ≡ unreported_edges s c
  -- a reported edge's callee is done, and the edge is full or emptied
  pub reported : (c i : ℕ) → IsEdge s.callees c i → (s.edge c i).reported ≡ true
      → (is_done (s.stage (callee s.callees c i)) ≡ true) × (is_empty (s.edge c i).fill ≡ false)
  -- an edge that is not reported is empty, or it is full and its callee is done
  pub unreported : (c i : ℕ) → IsEdge s.callees c i → (s.edge c i).reported ≡ false
      → (is_emptied (s.edge c i).fill ≡ false) × (is_full (s.edge c i).fill ≡ true → is_done (s.stage (callee s.callees c i)) ≡ true)
  -- an emptied edge's caller is taken or done
  pub emptied : (c i : ℕ) → IsEdge s.callees c i → is_emptied (s.edge c i).fill ≡ true → is_begun (s.stage c) ≡ true
  -- a done module's edges are all emptied
  pub done : (m i : ℕ) → IsEdge s.callees m i → is_done (s.stage m) ≡ true → is_emptied (s.edge m i).fill ≡ true
  -- a module with callees waits exactly where it has pending edges
  pub callers : (m : ℕ) → 0 < length (callees_of s.callees m) → is_waiting (s.stage m) ≡ nat_lt 0 (s.pending_edges m)
  -- a leaf waits exactly where its number is not below that of the leaves drawn
  pub drawn : (k m : ℕ) → slice_get (leaves s.callees) k ≡ Some m → is_waiting (s.stage m) ≡ nat_le s.leaf k
  -- a module that is owed, taken or done is so by one worker
  pub one : (m : ℕ) → holders s.workers (s.stage m) ≡ one_if (not (is_waiting (s.stage m)))
  -- and that worker is there
  pub there : (m w : ℕ) → is_held_by w (s.stage m) ≡ true → IsThere s w
  -- the workers, joined ones counted, are one more than the splits
  pub workers : s.workers ≡ s.splits + 1
  -- and at most 64
  pub few : s.workers ≤ 64
  -- the draws are at most as many as the leaves and no worker drew past them, or they are more by as many workers as
  -- drew past, joined ones counted
  pub past : passed_workers s ≡ s.leaf - length (leaves s.callees)
