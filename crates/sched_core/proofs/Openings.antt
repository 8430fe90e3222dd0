-- From the tables that a scheduler holds to what its contract says.
use Rattle.std.proofs.Common.{◌≡◌, ◌≢◌, ℕ, zero, suc, ◌+◌, ◌-◌, ◌*◌, ◌^◌, ◌<◌, ◌≤◌, List, [], length, set, get_or, map, true, Option, slice_get, refl, sym, ap, subst, ◌∙◌, arith}
use Rattle.std.proofs.Math.Nat.{mul-le-mul_right}
use Rattle.std.proofs.lemmas.List.{length-map, map-set, get_or-map}
use Rattle.sched_core.specs.declared.parts.Stage.TheVariants.{Owed}
use Rattle.sched_core.specs.declared.parts.Edge.{Edge}
use Rattle.sched_core.specs.declared.event.Event.{Event}
use Rattle.sched_core.specs.declared.event.Event.TheVariants.{Report, PutDone}
use Rattle.sched_core.specs.State.{leaves, is_done}
use Rattle.sched_core.specs.Events.{May, step}
use Rattle.sched_core.specs.Counts.{uses_of, untold_of}
use Rattle.sched_core.specs.Table.{Table, state_of, IsKept}
use Rattle.sched_core.proofs.Reports.{pending_edges-positive}
use Rattle.sched_core.proofs.Shapes.{Writes}
use Rattle.sched_core.proofs.StageWrites.{untold-uses-le}
use Rattle.sched_core.proofs.EdgeWrites.{with_row, told_edge, report_more-writes, report_last-writes}

-- a write that is right for the tables is right for the value that contracts see
pub through : {t now after : Table} {e : Event} → t ≡ now → May (state_of now) e → (May (state_of t) e → Writes t after e)
    → IsKept after × (state_of after ≡ step (state_of now) e)
through {t} {now} {after} {e} view may writes =
    let wrote : Writes t after e = writes (subst (λ s. May (state_of s) e) (sym view) may) in
    (wrote.kept, wrote.state ∙ ap (λ s. step (state_of s) e) view)

-- what may come by the value may come by the tables
pub may_by : {t now : Table} (e : Event) → t ≡ now → May (state_of now) e → May (state_of t) e
may_by e view may = subst (λ s. May (state_of s) e) (sym view) may

-- the next leaf by the tables
pub drawn_by : {t now : Table} {drawn : Option ℕ} → t ≡ now → slice_get (leaves now.callees) now.leaf ≡ drawn → slice_get (leaves t.callees) t.leaf ≡ drawn
drawn_by view is = ap (λ (s : Table). slice_get (leaves s.callees) s.leaf) view ∙ is

-- the rows of a list of lists after a write to one of them
pub rows-set : {A : Type 0} (f : A → List Edge) (rows : List A) (c i : ℕ) (e : Edge) (row new : A) → c < length (map f rows) → row ≡ get_or rows c row → f new ≡ set (f row) i e
    → map f (set rows c new) ≡ with_row (map f rows) c i e
rows-set f rows c i e row new within is written =
    let size : length (map f rows) ≡ length rows = length-map rows f in
    let old : get_or (map f rows) c [] ≡ f row = get_or-map f rows c row [] (omega arith) ∙ ap f (sym is) in
    map-set f rows c new ∙ ap (λ xs. set (map f rows) c xs) (written ∙ ap (λ xs. set xs i e) (sym old))

-- a report's writes, by the values that were read
pub report_more-read : (t : Table) (w c i u p : ℕ) (old : Edge) → IsKept t → May (state_of t) (Report w c i) → u ≡ get_or t.untold w 0
    → p ≡ (state_of t).pending_edges c → p ≢ 1 → old ≡ (state_of t).edge c i
    → Writes t (record t { edges = with_row t.edges c i (record old { reported = true }); pending_edges = set t.pending_edges c (p - 1); untold = set t.untold w (u - 1) }) (Report w c i)
report_more-read t w c i u p old kept may is_untold is_pending more is_edge =
    let positive : 0 < (state_of t).pending_edges c = pending_edges-positive (state_of t) c i kept.sound may.0 may.3 in
    let left : (state_of t).pending_edges c - 1 ≡ suc (p - 2) = rest p ((state_of t).pending_edges c) is_pending more positive in
    subst (λ x. Writes t (record t { edges = with_row t.edges c i (record x { reported = true }); pending_edges = set t.pending_edges c (p - 1); untold = set t.untold w (u - 1) }) (Report w c i)) (sym is_edge)
    (subst (λ n. Writes t (record t { edges = with_row t.edges c i (told_edge (state_of t) c i); pending_edges = set t.pending_edges c (n - 1); untold = set t.untold w (u - 1) }) (Report w c i)) (sym is_pending)
    (report_more-writes t w c i u (p - 2) kept may is_untold left))
  where
    rest : (a b : ℕ) → a ≡ b → a ≢ 1 → 0 < b → b - 1 ≡ suc (a - 2)
    rest zero b e apart positive = absurd (omega arith)
    rest (suc zero) b e apart positive = absurd (apart refl)
    rest (suc (suc a)) b e apart positive = omega arith

pub report_last-read : (t : Table) (w c i u b p : ℕ) (old : Edge) → IsKept t → May (state_of t) (Report w c i) → u ≡ get_or t.untold w 0 → b ≡ get_or t.busy w 0
    → p ≡ (state_of t).pending_edges c → p ≡ 1 → old ≡ (state_of t).edge c i
    → Writes t (record t {
      edges = with_row t.edges c i (record old { reported = true });
      pending_edges = set t.pending_edges c (p - 1);
      untold = set t.untold w (u - 1);
      stages = set t.stages c (Owed w);
      busy = set t.busy w (b + 1);
    }) (Report w c i)
report_last-read t w c i u b p old kept may is_untold is_busy is_pending last is_edge =
    let left : (state_of t).pending_edges c - 1 ≡ 0 = omega arith in
    subst (λ x. Writes t (record t {
      edges = with_row t.edges c i (record x { reported = true });
      pending_edges = set t.pending_edges c (p - 1);
      untold = set t.untold w (u - 1);
      stages = set t.stages c (Owed w);
      busy = set t.busy w (b + 1);
    }) (Report w c i)) (sym is_edge)
    (subst (λ n. Writes t (record t {
      edges = with_row t.edges c i (told_edge (state_of t) c i);
      pending_edges = set t.pending_edges c (n - 1);
      untold = set t.untold w (u - 1);
      stages = set t.stages c (Owed w);
      busy = set t.busy w (b + 1);
    }) (Report w c i)) (sym is_pending)
    (report_last-writes t w c i u b kept may is_untold is_busy left))

-- the counts of edges to report fit 64 bits
pub untold-fits : (t : Table) (w m : ℕ) → IsKept t → May (state_of t) (PutDone w m) → untold_of (state_of t) w + uses_of t.callees m < 2 ^ 64
untold-fits t w m kept may =
    let bound : untold_of (state_of t) w + uses_of t.callees m ≤ length t.callees * 4294967295 = untold-uses-le t w m kept (ap is_done may.0) in
    let size : length t.callees < 2 ^ 32 = kept.positions.modules in
    let most : length t.callees * 4294967295 ≤ 4294967295 * 4294967295 = mul-le-mul_right {m = length t.callees} {n = 4294967295} 4294967295 (omega arith) in
    omega arith
