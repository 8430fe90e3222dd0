-- The writes by which an edge is emptied, filled or reported.
use Rattle.std.proofs.Common.{◌≡◌, ℕ, suc, ◌+◌, ◌-◌, ◌<◌, ◌≤◌, true, List, [], length, set, get_or, refl, sym, ap, subst, ◌∙◌, arith}
use Rattle.std.specs.Prelude.{◌==◌}
use Rattle.std.proofs.lemmas.Bool.{eq-eqb, ne_eqb}
use Rattle.std.proofs.lemmas.List.{length-set}
use Rattle.sched_core.specs.declared.parts.Stage.TheVariants.{Owed}
use Rattle.sched_core.specs.declared.parts.Fill.TheVariants.{Full, Emptied}
use Rattle.sched_core.specs.declared.parts.Edge.{Edge}
use Rattle.sched_core.specs.declared.event.Event.TheVariants.{TakeEdge, PutEdge, Report}
use Rattle.sched_core.specs.Sums.{one_if, put}
use Rattle.sched_core.specs.State.{State, callees_of, callee, IsEdge, is_waiting, new_edge}
use Rattle.sched_core.specs.Events.{May, step, with_edge, stages_after_report}
use Rattle.sched_core.specs.Counts.{busy_of, untold_of}
use Rattle.sched_core.specs.Table.{Table, state_of, HasPositions, IsKept}
use Rattle.sched_core.proofs.Puts.{put_keeps}
use Rattle.sched_core.proofs.Draws.{not_done}
use Rattle.sched_core.proofs.Reports.{unreported-waits, doer_there}
use Rattle.sched_core.proofs.EdgeSums.{edge_within}
use Rattle.sched_core.proofs.Busy.{busy-owed}
use Rattle.sched_core.proofs.Untold.{untold-edge, untold-told, untold-put}
use Rattle.sched_core.proofs.Reading.{part-set, parts-set}
use Rattle.sched_core.proofs.Tested.{there-lt}
use Rattle.sched_core.proofs.Shapes.{Writes, counted, count-set, state-stage}
use Rattle.sched_core.proofs.StageWrites.{positions-stage, positions-busy, positions-untold}

-- the rows with another edge
abbrev pub with_row : List (List Edge) → ℕ → ℕ → Edge → List (List Edge)
with_row edges c i e = set edges c (set (get_or edges c []) i e)

pub caller-within : (t : Table) (c i : ℕ) → HasPositions t → IsEdge t.callees c i → c < length t.edges
caller-within t c i positions edge =
    let within : c < length t.callees = edge_within t.callees c i edge in
    let size : length t.edges ≡ length t.callees = positions.edges in
    omega arith

pub position-within : (t : Table) (c i : ℕ) → HasPositions t → IsEdge t.callees c i → i < length (get_or t.edges c [])
position-within t c i positions edge = let size : length (get_or t.edges c []) ≡ length (callees_of t.callees c) = positions.rows c in omega arith

-- the state after another edge
pub state-edge : (t : Table) (c i : ℕ) (e : Edge) → HasPositions t → IsEdge t.callees c i
    → state_of (record t { edges = with_row t.edges c i e }) ≡ with_edge (state_of t) c i e
state-edge t c i e positions edge =
    let row : List Edge = get_or t.edges c [] in
    let edges : ℕ → ℕ → Edge = (state_of t).edge in
    let outer : (λ (a : ℕ). λ (b : ℕ). get_or (get_or (with_row t.edges c i e) a []) b new_edge) ≡ put c (λ b. get_or (set row i e) b new_edge) edges =
    parts-set (λ xs. λ (b : ℕ). get_or xs b new_edge) [] t.edges c (set row i e) (caller-within t c i positions edge) in
    let inner : (λ (b : ℕ). get_or (set row i e) b new_edge) ≡ put i e (edges c) =
    parts-set (λ x. x) new_edge row i e (position-within t c i positions edge) in
    ap (λ f. record (state_of t) { edge = f }) (outer ∙ ap (λ f. put c f edges) inner)

pub positions-edge : (t : Table) (c i : ℕ) (e : Edge) → HasPositions t → IsEdge t.callees c i → HasPositions (record t { edges = with_row t.edges c i e })
positions-edge t c i e positions edge = record {
  stages = positions.stages;
  edges = length-set t.edges c (set (get_or t.edges c []) i e) ∙ positions.edges;
  rows = λ a. part-set length [] t.edges c (set (get_or t.edges c []) i e) (caller-within t c i positions edge) a
      ∙ put_keeps (λ n. n) c (length (set (get_or t.edges c []) i e)) (λ j. length (get_or t.edges j [])) (length-set (get_or t.edges c []) i e) a
      ∙ positions.rows a;
  pending_edges = positions.pending_edges;
  uses = positions.uses;
  workers = positions.workers;
  heirs = positions.heirs;
  busy = positions.busy;
  untold = positions.untold;
  modules = positions.modules;
  entries = positions.entries;
}

pub take_edge-writes : (t : Table) (w c i : ℕ) (old : Edge) → IsKept t → May (state_of t) (TakeEdge w c i) → old ≡ (state_of t).edge c i
    → Writes t (record t { edges = with_row t.edges c i (record old { fill = Emptied }) }) (TakeEdge w c i)
take_edge-writes t w c i old kept may is = subst (λ x. Writes t (record t { edges = with_row t.edges c i (record x { fill = Emptied }) }) (TakeEdge w c i)) (sym is)
    (counted t (record t { edges = with_row t.edges c i (record ((state_of t).edge c i) { fill = Emptied }) }) (TakeEdge w c i) kept may (record {
      positions = positions-edge t c i (record ((state_of t).edge c i) { fill = Emptied }) kept.positions may.0;
      state = state-edge t c i (record ((state_of t).edge c i) { fill = Emptied }) kept.positions may.0;
      leaf_modules = kept.leaf_modules;
      uses = kept.uses;
      own = kept.own;
      busy = kept.busy;
      untold = λ v below. kept.untold v below ∙ sym (untold-edge (state_of t) c i v (record ((state_of t).edge c i) { fill = Emptied }) refl);
    }))

pub put_edge-writes : (t : Table) (w c i : ℕ) (old : Edge) → IsKept t → May (state_of t) (PutEdge w c i) → old ≡ (state_of t).edge c i
    → Writes t (record t { edges = with_row t.edges c i (record old { fill = Full }) }) (PutEdge w c i)
put_edge-writes t w c i old kept may is = subst (λ x. Writes t (record t { edges = with_row t.edges c i (record x { fill = Full }) }) (PutEdge w c i)) (sym is)
    (counted t (record t { edges = with_row t.edges c i (record ((state_of t).edge c i) { fill = Full }) }) (PutEdge w c i) kept may (record {
      positions = positions-edge t c i (record ((state_of t).edge c i) { fill = Full }) kept.positions may.0;
      state = state-edge t c i (record ((state_of t).edge c i) { fill = Full }) kept.positions may.0;
      leaf_modules = kept.leaf_modules;
      uses = kept.uses;
      own = kept.own;
      busy = kept.busy;
      untold = λ v below. kept.untold v below ∙ sym (untold-edge (state_of t) c i v (record ((state_of t).edge c i) { fill = Full }) refl);
    }))

-- the state after another number of pending edges
pub state-pending_edges : (t : Table) (c p : ℕ) → c < length t.pending_edges → state_of (record t { pending_edges = set t.pending_edges c p }) ≡ record (state_of t) { pending_edges = put c p (state_of t).pending_edges }
state-pending_edges t c p within = ap (λ f. record (state_of t) { pending_edges = f }) (parts-set (λ n. n) 0 t.pending_edges c p within)

pub positions-pending_edges : (t : Table) (c p : ℕ) → HasPositions t → HasPositions (record t { pending_edges = set t.pending_edges c p })
positions-pending_edges t c p positions = record {
  stages = positions.stages;
  edges = positions.edges;
  rows = positions.rows;
  pending_edges = length-set t.pending_edges c p ∙ positions.pending_edges;
  uses = positions.uses;
  workers = positions.workers;
  heirs = positions.heirs;
  busy = positions.busy;
  untold = positions.untold;
  modules = positions.modules;
  entries = positions.entries;
}

-- the edge that is reported
abbrev pub told_edge : State → ℕ → ℕ → Edge
told_edge s c i = record (s.edge c i) { reported = true }

-- the tables after a report that leaves a pending edge
abbrev pub told_table : Table → ℕ → ℕ → ℕ → ℕ → Table
told_table t w c i u = record t { edges = with_row t.edges c i (told_edge (state_of t) c i); pending_edges = set t.pending_edges c ((state_of t).pending_edges c - 1); untold = set t.untold w (u - 1) }

-- the state that they tell
abbrev pub told_state : State → ℕ → ℕ → State
told_state s c i = record (with_edge s c i (told_edge s c i)) { pending_edges = put c (s.pending_edges c - 1) s.pending_edges }

told-state : (t : Table) (w c i u : ℕ) → HasPositions t → IsEdge t.callees c i → state_of (told_table t w c i u) ≡ told_state (state_of t) c i
told-state t w c i u positions edge =
    let within : c < length t.callees = edge_within t.callees c i edge in
    let size : length t.pending_edges ≡ length t.callees = positions.pending_edges in
    state-pending_edges (record t { edges = with_row t.edges c i (told_edge (state_of t) c i) }) c ((state_of t).pending_edges c - 1) (omega arith)
    ∙ ap (λ (s : State). record s { pending_edges = put c ((state_of t).pending_edges c - 1) (state_of t).pending_edges }) (state-edge t c i (told_edge (state_of t) c i) positions edge)

told-positions : (t : Table) (w c i u : ℕ) → HasPositions t → IsEdge t.callees c i → HasPositions (told_table t w c i u)
told-positions t w c i u positions edge =
    let with_edges : HasPositions (record t { edges = with_row t.edges c i (told_edge (state_of t) c i) }) = positions-edge t c i (told_edge (state_of t) c i) positions edge in
    positions-untold (record t { edges = with_row t.edges c i (told_edge (state_of t) c i); pending_edges = set t.pending_edges c ((state_of t).pending_edges c - 1) }) w (u - 1)
    (positions-pending_edges (record t { edges = with_row t.edges c i (told_edge (state_of t) c i) }) c ((state_of t).pending_edges c - 1) with_edges)

-- the doer's count of edges to report is at least one
pub untold-positive : (s : State) (w c i : ℕ) → May s (Report w c i) → 1 ≤ untold_of s w
untold-positive s w c i (edge, done, full, open_) =
    let change : untold_of (with_edge s c i (told_edge s c i)) w + one_if (w == w) ≡ untold_of s w = untold-told s w c i w edge done open_ in
    let one : one_if (w == w) ≡ 1 = ap one_if (eq-eqb w w refl) in
    omega arith

-- the counts of edges to report afterwards
told-untold : (t : Table) (w c i u : ℕ) → IsKept t → May (state_of t) (Report w c i) → u ≡ get_or t.untold w 0 → w < 64
    → (v : ℕ) → v < 64 → get_or (set t.untold w (u - 1)) v 0 ≡ untold_of (with_edge (state_of t) c i (told_edge (state_of t) c i)) v
told-untold t w c i u kept (edge, done, full, open_) is few =
    let s : State = state_of t in
    count-set t.untold w (u - 1) (untold_of s) (untold_of (with_edge s c i (told_edge s c i))) kept.positions.untold few kept.untold
    (let change : untold_of (with_edge s c i (told_edge s c i)) w + one_if (w == w) ≡ untold_of s w = untold-told s w c i w edge done open_ in
    let one : one_if (w == w) ≡ 1 = ap one_if (eq-eqb w w refl) in
    let old : u ≡ untold_of s w = is ∙ kept.untold w few in
    omega arith)
    (λ v other. let change : untold_of (with_edge s c i (told_edge s c i)) v + one_if (v == w) ≡ untold_of s v = untold-told s w c i v edge done open_ in
    let none : one_if (v == w) ≡ 0 = ap one_if (ne_eqb v w other) in
    omega arith)

-- who reports is one of 64
pub reporter-lt : (t : Table) (w c i : ℕ) → IsKept t → May (state_of t) (Report w c i) → w < 64
reporter-lt t w c i kept may = there-lt t w kept (doer_there (state_of t) w (callee t.callees c i) kept.sound may.1)

-- a report that is not the caller's last
pub report_more-writes : (t : Table) (w c i u left : ℕ) → IsKept t → May (state_of t) (Report w c i) → u ≡ get_or t.untold w 0 → (state_of t).pending_edges c - 1 ≡ suc left
    → Writes t (told_table t w c i u) (Report w c i)
report_more-writes t w c i u left kept may is more = counted t (told_table t w c i u) (Report w c i) kept may (record {
  positions = told-positions t w c i u kept.positions may.0;
  state = told-state t w c i u kept.positions may.0 ∙ is_report;
  leaf_modules = kept.leaf_modules;
  uses = kept.uses;
  own = kept.own;
  busy = λ v below. kept.busy v below ∙ ap (λ s. busy_of s v) is_report;
  untold = λ v below. told-untold t w c i u kept may is (reporter-lt t w c i kept may) v below ∙ ap (λ s. untold_of s v) is_report;
})
  where
    is_report : told_state (state_of t) c i ≡ step (state_of t) (Report w c i)
    is_report = ap (λ n. record (told_state (state_of t) c i) { stage = stages_after_report n w c (state_of t).stage }) (sym more)

-- the caller's last report
pub report_last-writes : (t : Table) (w c i u b : ℕ) → IsKept t → May (state_of t) (Report w c i) → u ≡ get_or t.untold w 0 → b ≡ get_or t.busy w 0 → (state_of t).pending_edges c - 1 ≡ 0
    → Writes t (record (told_table t w c i u) { stages = set t.stages c (Owed w); busy = set t.busy w (b + 1) }) (Report w c i)
report_last-writes t w c i u b kept may is is_busy last =
    counted t (record (told_table t w c i u) { stages = set t.stages c (Owed w); busy = set t.busy w (b + 1) }) (Report w c i) kept may (record {
      positions = positions-busy (record (told_table t w c i u) { stages = set t.stages c (Owed w) }) w (b + 1)
          (positions-stage (told_table t w c i u) c (Owed w) (told-positions t w c i u kept.positions may.0));
      state = state-stage (told_table t w c i u) c (Owed w) within
          ∙ ap (λ (s : State). record s { stage = put c (Owed w) (state_of t).stage }) (told-state t w c i u kept.positions may.0) ∙ is_report;
      leaf_modules = kept.leaf_modules;
      uses = kept.uses;
      own = kept.own;
      busy = λ v below. counts v below ∙ ap (λ s. busy_of s v) is_report;
      untold = λ v below. told-untold t w c i u kept may is few v below
          ∙ sym (untold-put (with_edge (state_of t) c i (told_edge (state_of t) c i)) c v (Owed w) (not_done ((state_of t).stage c) waits) refl)
          ∙ ap (λ s. untold_of s v) is_report;
    })
  where
    few : w < 64
    few = reporter-lt t w c i kept may

    waits : is_waiting ((state_of t).stage c) ≡ true
    waits = unreported-waits (state_of t) c i kept.sound may.0 may.3

    is_module : c < length t.callees
    is_module = edge_within t.callees c i may.0

    within : c < length t.stages
    within = let size : length t.stages ≡ length t.callees = kept.positions.stages in omega (arith, is_module)

    is_report : record (told_state (state_of t) c i) { stage = put c (Owed w) (state_of t).stage } ≡ step (state_of t) (Report w c i)
    is_report = ap (λ n. record (told_state (state_of t) c i) { stage = stages_after_report n w c (state_of t).stage }) (sym last)

    counts : (v : ℕ) → v < 64 → get_or (set t.busy w (b + 1)) v 0 ≡ busy_of (record (state_of t) { stage = put c (Owed w) (state_of t).stage }) v
    counts = count-set t.busy w (b + 1) (busy_of (state_of t)) (busy_of (record (state_of t) { stage = put c (Owed w) (state_of t).stage })) kept.positions.busy few kept.busy
        (let change : busy_of (record (state_of t) { stage = put c (Owed w) (state_of t).stage }) w ≡ busy_of (state_of t) w + one_if (w == w) = busy-owed (state_of t) c w w is_module waits in
        let one : one_if (w == w) ≡ 1 = ap one_if (eq-eqb w w refl) in
        let old : b ≡ busy_of (state_of t) w = is_busy ∙ kept.busy w few in
        omega arith)
        (λ v other. let change : busy_of (record (state_of t) { stage = put c (Owed w) (state_of t).stage }) v ≡ busy_of (state_of t) v + one_if (v == w) = busy-owed (state_of t) c w v is_module waits in
        let none : one_if (v == w) ≡ 0 = ap one_if (ne_eqb v w other) in
        omega arith)
