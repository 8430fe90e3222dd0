-- The writes by which a module is owed, taken or done.
use Rattle.std.proofs.Common.{◌≡◌, ℕ, ◌+◌, ◌-◌, ◌*◌, ◌^◌, ◌<◌, ◌≤◌, Bool, true, false, cond, length, set, get_or, Some, slice_get, refl, sym, ap, ◌∙◌, arith}
use Rattle.std.specs.Prelude.{◌==◌, ◌&&◌, not}
use Rattle.std.proofs.lemmas.Bool.{true≢false, eq-eqb, ne_eqb, eqb-true, cond-true, cond-false}
use Rattle.std.proofs.lemmas.List.{length-set}
use Rattle.sched_core.specs.declared.parts.Stage.{Stage}
use Rattle.sched_core.specs.declared.parts.Stage.TheVariants.{Owed, Taken, Done}
use Rattle.sched_core.specs.declared.event.Event.TheVariants.{Claim, Take, PutDone}
use Rattle.sched_core.specs.Sums.{sum_below, one_if, put}
use Rattle.sched_core.specs.State.{State, callees_of, callee, leaves, is_waiting, is_done, is_done_by, is_held_by, IsThere}
use Rattle.sched_core.specs.Events.{May, step, draw_leaf}
use Rattle.sched_core.specs.Counts.{sum_edges, uses_of, busy_of, untold_of, is_untold}
use Rattle.sched_core.specs.Table.{Table, state_of, HasPositions, IsKept}
use Rattle.sched_core.proofs.SumLemmas.{sum_below-le}
use Rattle.sched_core.proofs.LeafNumbers.{leaf-lt}
use Rattle.sched_core.proofs.Draws.{next_leaf-waits, not_done}
use Rattle.sched_core.proofs.EdgeSums.{sum_edges-add, sum_below-le_each}
use Rattle.sched_core.proofs.Busy.{busy-owed, busy-taken, busy-done, busy-le}
use Rattle.sched_core.proofs.Untold.{untold-put, untold-done, not_done_by}
use Rattle.sched_core.proofs.Shapes.{Writes, counted, count-set, state-stage, stage-within, holder-lt}

-- the tables with another stage of a module have the same positions
pub positions-stage : (t : Table) (m : ℕ) (x : Stage) → HasPositions t → HasPositions (record t { stages = set t.stages m x })
positions-stage t m x positions = record {
  stages = length-set t.stages m x ∙ positions.stages;
  edges = positions.edges;
  rows = positions.rows;
  pending_edges = positions.pending_edges;
  uses = positions.uses;
  workers = positions.workers;
  heirs = positions.heirs;
  busy = positions.busy;
  untold = positions.untold;
  modules = positions.modules;
  entries = positions.entries;
}

-- with another count of busy modules
pub positions-busy : (t : Table) (w n : ℕ) → HasPositions t → HasPositions (record t { busy = set t.busy w n })
positions-busy t w n positions = record {
  stages = positions.stages;
  edges = positions.edges;
  rows = positions.rows;
  pending_edges = positions.pending_edges;
  uses = positions.uses;
  workers = positions.workers;
  heirs = positions.heirs;
  busy = length-set t.busy w n ∙ positions.busy;
  untold = positions.untold;
  modules = positions.modules;
  entries = positions.entries;
}

-- with another count of edges to report
pub positions-untold : (t : Table) (w n : ℕ) → HasPositions t → HasPositions (record t { untold = set t.untold w n })
positions-untold t w n positions = record {
  stages = positions.stages;
  edges = positions.edges;
  rows = positions.rows;
  pending_edges = positions.pending_edges;
  uses = positions.uses;
  workers = positions.workers;
  heirs = positions.heirs;
  busy = positions.busy;
  untold = length-set t.untold w n ∙ positions.untold;
  modules = positions.modules;
  entries = positions.entries;
}

pub take-writes : (t : Table) (w m : ℕ) → IsKept t → May (state_of t) (Take w m) → Writes t (record t { stages = set t.stages m (Taken w) }) (Take w m)
take-writes t w m kept owed = counted t (record t { stages = set t.stages m (Taken w) }) (Take w m) kept owed (record {
  positions = positions-stage t m (Taken w) kept.positions;
  state = state-stage t m (Taken w) (stage-within t m (ap is_waiting owed));
  leaf_modules = kept.leaf_modules;
  uses = kept.uses;
  own = kept.own;
  busy = λ v below. kept.busy v below ∙ sym (busy-taken (state_of t) m w v owed);
  untold = λ v below. kept.untold v below ∙ sym (untold-put (state_of t) m v (Taken w) (ap is_done owed) refl);
})

-- a worker's count of edges and the edges from a module that is not done are at most all edges
pub untold-uses-le : (t : Table) (v m : ℕ) → IsKept t → is_done ((state_of t).stage m) ≡ false
    → untold_of (state_of t) v + uses_of t.callees m ≤ length t.callees * 4294967295
untold-uses-le t v m kept not_yet =
    let s : State = state_of t in
    let both : ℕ → ℕ → ℕ = λ c i. one_if (is_untold s v c i) + one_if (callee t.callees c i == m) in
    let all : sum_edges t.callees both ≡ untold_of s v + uses_of t.callees m = sum_edges-add t.callees (λ c i. one_if (is_untold s v c i)) (λ c i. one_if (callee t.callees c i == m)) in
    let bound : sum_edges t.callees both ≤ length t.callees * 4294967295 =
    sum_below-le_each (length t.callees) 4294967295 (λ c. sum_below (length (callees_of t.callees c)) (both c))
    (λ c below. let row : sum_below (length (callees_of t.callees c)) (both c) ≤ length (callees_of t.callees c) = sum_below-le (length (callees_of t.callees c)) (both c) (small c) in
    let size : length (callees_of t.callees c) < 2 ^ 32 = kept.positions.entries c in omega arith) in
    omega arith
  where
    one_of : (a b : Bool) → (b ≡ true → a ≡ false) → one_if a + one_if b ≤ 1
    one_of true true apart = absurd (true≢false (apart refl))
    one_of true false apart = omega arith
    one_of false true apart = omega arith
    one_of false false apart = omega arith

    and_false : (a b : Bool) → b ≡ false → (a && b) ≡ false
    and_false true b is = is
    and_false false b is = refl

    small : (c i : ℕ) → one_if (is_untold (state_of t) v c i) + one_if (callee t.callees c i == m) ≤ 1
    small c i = one_of (is_untold (state_of t) v c i) (callee t.callees c i == m)
        (λ here. and_false (not ((state_of t).edge c i).reported) (is_done_by v ((state_of t).stage (callee t.callees c i)))
        (not_done_by v ((state_of t).stage (callee t.callees c i)) (ap (λ n. is_done ((state_of t).stage n)) (eqb-true (callee t.callees c i) m here) ∙ not_yet)))

-- the count of busy modules is at least one
pub busy-positive : (s : State) (w m : ℕ) → m < length s.callees → s.stage m ≡ Taken w → 1 ≤ busy_of s w
busy-positive s w m within taken =
    let change : busy_of (record s { stage = put m (Done w) s.stage }) w + one_if (w == w) ≡ busy_of s w = busy-done s m w w within taken in
    let one : one_if (w == w) ≡ 1 = ap one_if (eq-eqb w w refl) in
    omega arith

pub put_done-writes : (t : Table) (w m b u n : ℕ) → IsKept t → May (state_of t) (PutDone w m)
    → b ≡ get_or t.busy w 0 → u ≡ get_or t.untold w 0 → n ≡ get_or t.uses m 0
    → Writes t (record t { stages = set t.stages m (Done w); busy = set t.busy w (b - 1); untold = set t.untold w (u + n) }) (PutDone w m)
put_done-writes t w m b u n kept may is_busy is_untold' is_uses =
    counted t (record t { stages = set t.stages m (Done w); busy = set t.busy w (b - 1); untold = set t.untold w (u + n) }) (PutDone w m) kept may (record {
      positions = positions-untold (record t { stages = set t.stages m (Done w); busy = set t.busy w (b - 1) }) w (u + n)
          (positions-busy (record t { stages = set t.stages m (Done w) }) w (b - 1) (positions-stage t m (Done w) kept.positions));
      state = state-stage t m (Done w) within ∙ ap (λ x. record (state_of t) { stage = put m (Done x) (state_of t).stage }) (kept.own w few (λ come. holder.1));
      leaf_modules = kept.leaf_modules;
      uses = kept.uses;
      own = kept.own;
      busy = count-set t.busy w (b - 1) (busy_of (state_of t)) (busy_of (step (state_of t) (PutDone w m))) kept.positions.busy few kept.busy
          (let change : busy_of (step (state_of t) (PutDone w m)) w + one_if (w == w) ≡ busy_of (state_of t) w = busy-done (state_of t) m w w is_module may.0 in
          let one : one_if (w == w) ≡ 1 = ap one_if (eq-eqb w w refl) in
          let old : b ≡ busy_of (state_of t) w = is_busy ∙ kept.busy w few in
          omega arith)
          (λ v other. let change : busy_of (step (state_of t) (PutDone w m)) v + one_if (v == w) ≡ busy_of (state_of t) v = busy-done (state_of t) m w v is_module may.0 in
          let none : one_if (v == w) ≡ 0 = ap one_if (ne_eqb v w other) in
          omega arith);
      untold = count-set t.untold w (u + n) (untold_of (state_of t)) (untold_of (step (state_of t) (PutDone w m))) kept.positions.untold few kept.untold
          (let change : untold_of (step (state_of t) (PutDone w m)) w ≡ untold_of (state_of t) w + cond (w == w) (uses_of t.callees m) 0 = untold-done (state_of t) w m w kept.sound (ap is_done may.0) in
          let all : cond (w == w) (uses_of t.callees m) 0 ≡ uses_of t.callees m = cond-true (w == w) (uses_of t.callees m) 0 (eq-eqb w w refl) in
          let old : u ≡ untold_of (state_of t) w = is_untold' ∙ kept.untold w few in
          let more : n ≡ uses_of t.callees m = is_uses ∙ kept.uses m is_module in
          omega arith)
          (λ v other. let change : untold_of (step (state_of t) (PutDone w m)) v ≡ untold_of (state_of t) v + cond (v == w) (uses_of t.callees m) 0 = untold-done (state_of t) w m v kept.sound (ap is_done may.0) in
          let none : cond (v == w) (uses_of t.callees m) 0 ≡ 0 = cond-false (v == w) (uses_of t.callees m) 0 (ne_eqb v w other) in
          omega arith);
    })
  where
    held : is_held_by w ((state_of t).stage m) ≡ true
    held = ap (is_held_by w) may.0 ∙ eq-eqb w w refl

    holder : IsThere (state_of t) w
    holder = kept.sound.there m w held

    few : w < 64
    few = holder-lt t m w kept held

    within : m < length t.stages
    within = stage-within t m (ap is_waiting may.0)

    is_module : m < length t.callees
    is_module = let size : length t.stages ≡ length t.callees = kept.positions.stages in omega (arith, within)

pub draw-writes : (t : Table) (w m b : ℕ) → IsKept t → May (state_of t) (Claim w) → slice_get (leaves t.callees) t.leaf ≡ Some m → b ≡ get_or t.busy w 0 → w < 64
    → Writes t (record t { stages = set t.stages m (Owed w); busy = set t.busy w (b + 1); leaf = t.leaf + 1 }) (Claim w)
draw-writes t w m b kept may drawn is_busy few =
    counted t (record t { stages = set t.stages m (Owed w); busy = set t.busy w (b + 1); leaf = t.leaf + 1 }) (Claim w) kept may (record {
      positions = positions-busy (record t { stages = set t.stages m (Owed w); leaf = t.leaf + 1 }) w (b + 1) (drawn-positions (positions-stage t m (Owed w) kept.positions));
      state = ap (λ (s : State). record s { leaf = t.leaf + 1 }) (state-stage t m (Owed w) within) ∙ is_claim;
      leaf_modules = kept.leaf_modules;
      uses = kept.uses;
      own = kept.own;
      busy = λ v below. counts v below ∙ ap (λ s. busy_of s v) is_claim;
      untold = λ v below. kept.untold v below ∙ sym (untold-put (state_of t) m v (Owed w) (not_done ((state_of t).stage m) waits) refl) ∙ ap (λ s. untold_of s v) is_claim;
    })
  where
    is_claim : draw_leaf (state_of t) w (Some m) ≡ step (state_of t) (Claim w)
    is_claim = ap (draw_leaf (state_of t) w) (sym drawn)

    waits : is_waiting ((state_of t).stage m) ≡ true
    waits = next_leaf-waits (state_of t) m kept.sound drawn

    is_module : m < length t.callees
    is_module = leaf-lt t.callees t.leaf m drawn

    within : m < length t.stages
    within = let size : length t.stages ≡ length t.callees = kept.positions.stages in omega (arith, is_module)

    drawn-positions : HasPositions (record t { stages = set t.stages m (Owed w) }) → HasPositions (record t { stages = set t.stages m (Owed w); leaf = t.leaf + 1 })
    drawn-positions positions = record {
      stages = positions.stages;
      edges = positions.edges;
      rows = positions.rows;
      pending_edges = positions.pending_edges;
      uses = positions.uses;
      workers = positions.workers;
      heirs = positions.heirs;
      busy = positions.busy;
      untold = positions.untold;
      modules = positions.modules;
      entries = positions.entries;
    }

    counts : (v : ℕ) → v < 64 → get_or (set t.busy w (b + 1)) v 0 ≡ busy_of (record (state_of t) { stage = put m (Owed w) (state_of t).stage }) v
    counts = count-set t.busy w (b + 1) (busy_of (state_of t)) (busy_of (record (state_of t) { stage = put m (Owed w) (state_of t).stage })) kept.positions.busy few kept.busy
        (let change : busy_of (record (state_of t) { stage = put m (Owed w) (state_of t).stage }) w ≡ busy_of (state_of t) w + one_if (w == w) = busy-owed (state_of t) m w w is_module waits in
        let one : one_if (w == w) ≡ 1 = ap one_if (eq-eqb w w refl) in
        let old : b ≡ busy_of (state_of t) w = is_busy ∙ kept.busy w few in
        omega arith)
        (λ v other. let change : busy_of (record (state_of t) { stage = put m (Owed w) (state_of t).stage }) v ≡ busy_of (state_of t) v + one_if (v == w) = busy-owed (state_of t) m w v is_module waits in
        let none : one_if (v == w) ≡ 0 = ap one_if (ne_eqb v w other) in
        omega arith)

-- the count of busy modules has room for one more that waits
pub busy-room : (t : Table) (w m : ℕ) → IsKept t → m < length t.callees → is_waiting ((state_of t).stage m) ≡ true → busy_of (state_of t) w + 1 < 2 ^ 32
busy-room t w m kept is_module waits =
    let change : busy_of (record (state_of t) { stage = put m (Owed w) (state_of t).stage }) w ≡ busy_of (state_of t) w + one_if (w == w) = busy-owed (state_of t) m w w is_module waits in
    let one : one_if (w == w) ≡ 1 = ap one_if (eq-eqb w w refl) in
    let bound : busy_of (record (state_of t) { stage = put m (Owed w) (state_of t).stage }) w ≤ length t.callees = busy-le (record (state_of t) { stage = put m (Owed w) (state_of t).stage }) w in
    let size : length t.callees < 2 ^ 32 = kept.positions.modules in
    omega arith

-- who puts a finished body is one of 64, and what it puts is a module
pub worker-lt : (t : Table) (w m : ℕ) → IsKept t → May (state_of t) (PutDone w m) → w < 64
worker-lt t w m kept may = holder-lt t m w kept (ap (is_held_by w) may.0 ∙ eq-eqb w w refl)

pub module-lt : (t : Table) (w m : ℕ) → IsKept t → May (state_of t) (PutDone w m) → m < length t.callees
module-lt t w m kept may =
    let within : m < length t.stages = stage-within t m (ap is_waiting may.0) in
    let size : length t.stages ≡ length t.callees = kept.positions.stages in
    omega arith
