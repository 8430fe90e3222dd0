-- The events of a schedule: when each may come, and what it changes. What an event's row does not name stays.
use Rattle.std.specs.Prelude.{◌≡◌, ◌≢◌, ℕ, zero, suc, ◌+◌, ◌-◌, ◌<◌, true, false, cond, ◌==◌, Option, Some, None, slice_get}
use Rattle.sched_core.specs.declared.event.Event.{Event}
use Rattle.sched_core.specs.declared.event.Event.TheVariants.{Claim, Take, TakeEdge, PutDone, PutEdge, Report, Split, Join}
use Rattle.sched_core.specs.declared.parts.Stage.{Stage}
use Rattle.sched_core.specs.declared.parts.Stage.TheVariants.{Waiting, Owed, Taken, Done}
use Rattle.sched_core.specs.declared.parts.Fill.TheVariants.{Empty, Full, Emptied}
use Rattle.sched_core.specs.declared.parts.Edge.{Edge}
use Rattle.sched_core.specs.Sums.{put}
use Rattle.sched_core.specs.State.{State, callee, IsEdge, leaves, IsThere, IsFree, HasReported, new_worker}

-- when an event may come
abbrev pub May : State → Event → Type 0
-- the worker is there and has not drawn past the leaves
May s (Claim w) = IsThere s w × ((s.worker w).passed ≡ false)
-- the module is owed to the worker
May s (Take w m) = s.stage m ≡ Owed w
-- the caller is taken by the worker, and the edge is full
May s (TakeEdge w c i) = IsEdge s.callees c i × (s.stage c ≡ Taken w) × ((s.edge c i).fill ≡ Full)
-- the module is taken by the worker, and its edges are emptied
May s (PutDone w m) = (s.stage m ≡ Taken w) × ((i : ℕ) → IsEdge s.callees m i → (s.edge m i).fill ≡ Emptied)
-- the callee is done by the worker, and the edge is empty
May s (PutEdge w c i) = IsEdge s.callees c i × (s.stage (callee s.callees c i) ≡ Done w) × ((s.edge c i).fill ≡ Empty)
-- the callee is done by the worker, and the edge is full and not reported
May s (Report w c i) = IsEdge s.callees c i × (s.stage (callee s.callees c i) ≡ Done w) × ((s.edge c i).fill ≡ Full) × ((s.edge c i).reported ≡ false)
-- the first worker is there and has split fewer than 63 times
May s Split = IsThere s 0 × (s.splits < 63)
-- the two are different workers that are there; the joined one has nothing owed or taken, and every edge whose callee it
-- did is reported
May s (Join kept gone) = (kept ≢ gone) × IsThere s kept × IsThere s gone × IsFree s gone × HasReported s gone

-- the state with another edge at (c, i)
abbrev pub with_edge : State → ℕ → ℕ → Edge → State
with_edge s c i e = record s { edge = put c (put i e (s.edge c)) s.edge }

-- after a draw: the leaf that was drawn is owed to the worker, or where there was none the worker has drawn past them
abbrev pub draw_leaf : State → ℕ → Option ℕ → State
draw_leaf s w (Some m) = record s { leaf = s.leaf + 1; stage = put m (Owed w) s.stage }
draw_leaf s w None = record s { leaf = s.leaf + 1; worker = put w (record (s.worker w) { passed = true }) s.worker }

-- the stages after a report that left so many edges of the caller: at none it is owed to the worker
abbrev pub stages_after_report : ℕ → ℕ → ℕ → (ℕ → Stage) → ℕ → Stage
stages_after_report zero w c stage = put c (Owed w) stage
stages_after_report (suc left) w c stage = stage

-- what the one worker did, done by the other
abbrev pub reassign : ℕ → ℕ → Stage → Stage
reassign kept gone Waiting = Waiting
reassign kept gone (Owed w) = Owed w
reassign kept gone (Taken w) = Taken w
reassign kept gone (Done w) = Done (cond (w == gone) kept w)

-- what an event changes
abbrev pub step : State → Event → State
-- one more leaf is drawn
step s (Claim w) = draw_leaf s w (slice_get (leaves s.callees) s.leaf)
-- the module is taken
step s (Take w m) = record s { stage = put m (Taken w) s.stage }
-- the edge is emptied
step s (TakeEdge w c i) = with_edge s c i (record (s.edge c i) { fill = Emptied })
-- the module is done
step s (PutDone w m) = record s { stage = put m (Done w) s.stage }
-- the edge is full
step s (PutEdge w c i) = with_edge s c i (record (s.edge c i) { fill = Full })
-- the edge is reported, and the caller has one pending edge less; at none it is owed to the worker
step s (Report w c i) = record (with_edge s c i (record (s.edge c i) { reported = true })) { pending_edges = put c (s.pending_edges c - 1) s.pending_edges; stage = stages_after_report (s.pending_edges c - 1) w c s.stage }
-- a worker comes, and the splits rise by one
step s Split = record s { worker = put s.workers new_worker s.worker; workers = s.workers + 1; splits = s.splits + 1 }
-- the joined worker goes, and what it did passes to the other
step s (Join kept gone) = record s { worker = put gone (record (s.worker gone) { gone = true }) s.worker; stage = λ m. reassign kept gone (s.stage m) }
