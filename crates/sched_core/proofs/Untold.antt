-- How many edges each worker is still to report, after each event.
use Rattle.std.proofs.Common.{◌≡◌, ◌≢◌, ℕ, ◌+◌, ◌⊎◌, Bool, true, false, not, cond, ◌&&◌, refl, sym, ap, ◌∙◌, inl, inr, arith}
use Rattle.std.specs.Prelude.{◌==◌}
use Rattle.std.proofs.lemmas.Bool.{true≢false, eq-eqb, ne_eqb, cases_eq, cond-false}
use Rattle.sched_core.specs.declared.parts.Stage.{Stage}
use Rattle.sched_core.specs.declared.parts.Stage.TheVariants.{Waiting, Owed, Taken, Done}
use Rattle.sched_core.specs.declared.parts.Edge.{Edge}
use Rattle.sched_core.specs.Sums.{one_if, put}
use Rattle.sched_core.specs.State.{State, callee, IsEdge, is_done, is_done_by, HasReported}
use Rattle.sched_core.specs.Events.{reassign, with_edge}
use Rattle.sched_core.specs.Sound.{Sound}
use Rattle.sched_core.specs.Counts.{sum_edges, uses_of, is_untold, untold_of}
use Rattle.sched_core.proofs.EdgeSums.{sum_edges-same, sum_edges-changed, sum_edges-add, sum_edges-none, none_of_edges}
use Rattle.sched_core.proofs.Puts.{put-here, put-other, put_keeps}
use Rattle.sched_core.proofs.Edges.{put_edge, put_edge_cases, put_edge_keeps}

-- a module that is not done is done by no worker
pub not_done_by : (v : ℕ) (x : Stage) → is_done x ≡ false → is_done_by v x ≡ false
not_done_by v Waiting is = refl
not_done_by v (Owed w) is = refl
not_done_by v (Taken w) is = refl
not_done_by v (Done w) is = absurd (true≢false is)

-- after another stage of one module that neither was nor is done
pub untold-put : (s : State) (m v : ℕ) (x : Stage) → is_done (s.stage m) ≡ false → is_done x ≡ false → untold_of (record s { stage = put m x s.stage }) v ≡ untold_of s v
untold-put s m v x was is =
    sum_edges-same s.callees (λ c i. one_if (not (s.edge c i).reported && is_done_by v (put m x s.stage (callee s.callees c i)))) (λ c i. one_if (is_untold s v c i))
    (λ c i edge. ap (λ b. one_if (not (s.edge c i).reported && b)) (put_keeps (is_done_by v) m x s.stage (not_done_by v x is ∙ sym (not_done_by v (s.stage m) was)) (callee s.callees c i)))

-- after another edge that is reported where the old one was
pub untold-edge : (s : State) (c i v : ℕ) (e : Edge) → e.reported ≡ (s.edge c i).reported → untold_of (with_edge s c i e) v ≡ untold_of s v
untold-edge s c i v e same =
    sum_edges-same s.callees (λ a b. one_if (is_untold (with_edge s c i e) v a b)) (λ a b. one_if (is_untold s v a b))
    (λ a b edge. ap (λ r. one_if (not r && is_done_by v (s.stage (callee s.callees a b)))) (put_edge_keeps (λ x. x.reported) c i e s.edge same a b))

-- the edges that come to be the doer's to report once the module is done
fresh : State → ℕ → ℕ → ℕ → ℕ → ℕ → ℕ
fresh s w m v c i = cond (v == w) (one_if (callee s.callees c i == m)) 0

-- zero either way
either_zero : (b : Bool) → let n : ℕ = cond b 0 0 in n ≡ 0
either_zero true = refl
either_zero false = refl

untold_each : (s : State) (w m v c i : ℕ) → Sound s → is_done (s.stage m) ≡ false → IsEdge s.callees c i
    → one_if (not (s.edge c i).reported && is_done_by v (put m (Done w) s.stage (callee s.callees c i))) ≡ one_if (is_untold s v c i) + fresh s w m v c i
unfolding fresh
untold_each s w m v c i sound not_yet edge = go (cases_eq (callee s.callees c i) m)
  where
    unreported_there : callee s.callees c i ≡ m → (b : Bool) → (s.edge c i).reported ≡ b → b ≡ false
    unreported_there here true is = absurd (true≢false (sym (ap (λ n. is_done (s.stage n)) (sym here) ∙ (sound.reported c i edge is).0) ∙ not_yet))
    unreported_there here false is = refl

    sums : (b : Bool) → one_if b ≡ 0 + cond b 1 0
    sums true = refl
    sums false = refl

    go : (callee s.callees c i ≡ m) ⊎ (callee s.callees c i ≢ m)
        → one_if (not (s.edge c i).reported && is_done_by v (put m (Done w) s.stage (callee s.callees c i))) ≡ one_if (is_untold s v c i) + cond (v == w) (one_if (callee s.callees c i == m)) 0
    go (inl here) =
        let open_ : (s.edge c i).reported ≡ false = unreported_there here (s.edge c i).reported refl in
        let stage : put m (Done w) s.stage (callee s.callees c i) ≡ Done w = ap (put m (Done w) s.stage) here ∙ put-here m (Done w) s.stage in
        let new : one_if (not (s.edge c i).reported && is_done_by v (put m (Done w) s.stage (callee s.callees c i))) ≡ one_if (v == w) =
        ap (λ r. one_if (not r && is_done_by v (put m (Done w) s.stage (callee s.callees c i)))) open_ ∙ ap (λ x. one_if (is_done_by v x)) stage in
        let by_none : is_done_by v (s.stage (callee s.callees c i)) ≡ false = not_done_by v (s.stage (callee s.callees c i)) (ap (λ n. is_done (s.stage n)) here ∙ not_yet) in
        let old : one_if (is_untold s v c i) ≡ 0 = ap (λ r. one_if (not r && is_done_by v (s.stage (callee s.callees c i)))) open_ ∙ ap one_if by_none in
        let one : one_if (callee s.callees c i == m) ≡ 1 = ap one_if (eq-eqb (callee s.callees c i) m here) in
        let more : cond (v == w) (one_if (callee s.callees c i == m)) 0 ≡ one_if (v == w) = ap (λ n. cond (v == w) n 0) one in
        omega arith
    go (inr other) =
        let new : one_if (not (s.edge c i).reported && is_done_by v (put m (Done w) s.stage (callee s.callees c i))) ≡ one_if (is_untold s v c i) =
        ap (λ x. one_if (not (s.edge c i).reported && is_done_by v x)) (put-other m (Done w) s.stage (callee s.callees c i) other) in
        let none : one_if (callee s.callees c i == m) ≡ 0 = ap one_if (ne_eqb (callee s.callees c i) m other) in
        let more : cond (v == w) (one_if (callee s.callees c i == m)) 0 ≡ 0 = ap (λ n. cond (v == w) n 0) none ∙ either_zero (v == w) in
        omega arith

-- once a module is done, its doer has as many edges more to report as there are from it
pub untold-done : (s : State) (w m v : ℕ) → Sound s → is_done (s.stage m) ≡ false
    → untold_of (record s { stage = put m (Done w) s.stage }) v ≡ untold_of s v + cond (v == w) (uses_of s.callees m) 0
unfolding fresh
untold-done s w m v sound not_yet =
    sum_edges-same s.callees (λ c i. one_if (not (s.edge c i).reported && is_done_by v (put m (Done w) s.stage (callee s.callees c i)))) (λ c i. one_if (is_untold s v c i) + fresh s w m v c i)
    (λ c i edge. untold_each s w m v c i sound not_yet edge)
    ∙ sum_edges-add s.callees (λ c i. one_if (is_untold s v c i)) (fresh s w m v)
    ∙ ap (λ n. untold_of s v + n) (all_fresh (v == w))
  where
    all_fresh : (b : Bool) → sum_edges s.callees (λ c i. cond b (one_if (callee s.callees c i == m)) 0) ≡ cond b (uses_of s.callees m) 0
    all_fresh true = refl
    all_fresh false = sum_edges-none s.callees (λ c i. 0) (λ c i edge. refl)

-- once an edge is reported, its callee's doer has one edge less to report
pub untold-told : (s : State) (w c i v : ℕ) → IsEdge s.callees c i → s.stage (callee s.callees c i) ≡ Done w → (s.edge c i).reported ≡ false
    → untold_of (with_edge s c i (record (s.edge c i) { reported = true })) v + one_if (v == w) ≡ untold_of s v
untold-told s w c i v edge done open_ =
    let e : Edge = record (s.edge c i) { reported = true } in
    let change : untold_of (with_edge s c i e) v + one_if (is_untold s v c i) ≡ untold_of s v + one_if (is_untold (with_edge s c i e) v c i) =
    sum_edges-changed s.callees (λ a b. one_if (is_untold s v a b)) (λ a b. one_if (is_untold (with_edge s c i e) v a b)) c i edge
    (λ a b other. ap (λ x. one_if (not x.reported && is_done_by v (s.stage (callee s.callees a b)))) (elsewhere a b e other)) in
    let old : one_if (is_untold s v c i) ≡ one_if (v == w) = ap (λ r. one_if (not r && is_done_by v (s.stage (callee s.callees c i)))) open_ ∙ ap (λ x. one_if (is_done_by v x)) done in
    let new : one_if (is_untold (with_edge s c i e) v c i) ≡ 0 =
    ap (λ row. one_if (not (row i).reported && is_done_by v (s.stage (callee s.callees c i)))) (put-here c (put i e (s.edge c)) s.edge)
    ∙ ap (λ x. one_if (not x.reported && is_done_by v (s.stage (callee s.callees c i)))) (put-here i e (s.edge c)) in
    let same : untold_of s v + 0 ≡ untold_of s v = omega arith in
    omega arith
  where
    elsewhere : (a b : ℕ) (e : Edge) → (a ≢ c) ⊎ (b ≢ i) → put_edge c i e s.edge a b ≡ s.edge a b
    elsewhere a b e (inl apart) = ap (λ row. row b) (put-other c (put i e (s.edge c)) s.edge a apart)
    elsewhere a b e (inr apart) = put_edge_cases (λ x. x ≡ s.edge a b) c i e s.edge a b (λ here here'. absurd (apart here')) refl

-- what one worker did passes to another, once it has nothing more to report
pub untold-reassign : (s : State) (kept gone v : ℕ) → HasReported s gone → untold_of (record s { stage = λ m. reassign kept gone (s.stage m) }) v ≡ untold_of s v
untold-reassign s kept gone v told =
    sum_edges-same s.callees (λ c i. one_if (not (s.edge c i).reported && is_done_by v (reassign kept gone (s.stage (callee s.callees c i))))) (λ c i. one_if (is_untold s v c i))
    (λ c i edge. each c i edge (s.stage (callee s.callees c i)) refl)
  where
    other_doer : (c i w : ℕ) → IsEdge s.callees c i → s.stage (callee s.callees c i) ≡ Done w → (s.edge c i).reported ≡ false → w ≢ gone
    other_doer c i w edge is open_ same =
        let done : is_done_by gone (s.stage (callee s.callees c i)) ≡ true = ap (is_done_by gone) is ∙ eq-eqb gone w (sym same) in
        true≢false (sym (told c i edge done) ∙ open_)

    each : (c i : ℕ) → IsEdge s.callees c i → (x : Stage) → s.stage (callee s.callees c i) ≡ x
        → one_if (not (s.edge c i).reported && is_done_by v (reassign kept gone x)) ≡ one_if (not (s.edge c i).reported && is_done_by v x)
    each c i edge Waiting is = refl
    each c i edge (Owed w) is = refl
    each c i edge (Taken w) is = refl
    each c i edge (Done w) is = by_report (s.edge c i).reported refl
      where
        by_report : (b : Bool) → (s.edge c i).reported ≡ b → one_if (not b && (v == cond (w == gone) kept w)) ≡ one_if (not b && (v == w))
        by_report true reported = refl
        by_report false open_ = ap (λ u. one_if (v == u)) (cond-false (w == gone) kept w (ne_eqb w gone (other_doer c i w edge is open_)))

-- a worker that has reported all its edges has a count of zero, and the other way round
pub untold-reported : (s : State) (w : ℕ) → HasReported s w → untold_of s w ≡ 0
untold-reported s w told = sum_edges-none s.callees (λ c i. one_if (is_untold s w c i)) (λ c i edge. each c i edge (is_done_by w (s.stage (callee s.callees c i))) refl)
  where
    none : (b : Bool) → one_if (b && false) ≡ 0
    none true = refl
    none false = refl

    each : (c i : ℕ) → IsEdge s.callees c i → (b : Bool) → is_done_by w (s.stage (callee s.callees c i)) ≡ b → one_if (not (s.edge c i).reported && b) ≡ 0
    each c i edge true is = ap (λ r. one_if (not r && true)) (told c i edge is)
    each c i edge false is = none (not (s.edge c i).reported)

pub reported_of_untold : (s : State) (w : ℕ) → untold_of s w ≡ 0 → HasReported s w
reported_of_untold s w none c i edge done = is_true (s.edge c i).reported (ap (λ b. one_if (not (s.edge c i).reported && b)) (sym done) ∙ here)
  where
    here : one_if (is_untold s w c i) ≡ 0
    here = none_of_edges s.callees (λ a b. one_if (is_untold s w a b)) none c i edge

    is_true : (b : Bool) → one_if (not b && true) ≡ 0 → b ≡ true
    is_true true is = refl
    is_true false is = absurd (omega arith)
