-- An event that keeps a state sound: an edge is reported to its caller.
use Rattle.std.proofs.Common.{◌≡◌, ◌≢◌, ℕ, zero, suc, ◌+◌, ◌-◌, ◌<◌, ◌≤◌, ◌⊎◌, true, false, not, [], length, Some, slice_get, refl, sym, ap, subst, ◌∙◌, inl, inr, arith}
use Rattle.std.specs.Prelude.{nat_lt}
use Rattle.std.proofs.lemmas.Bool.{true≢false, lt-ltb, cases_eq, eq-eqb}
use Rattle.sched_core.specs.declared.parts.Stage.{Stage}
use Rattle.sched_core.specs.declared.parts.Stage.TheVariants.{Owed, Done}
use Rattle.sched_core.specs.declared.parts.Edge.{Edge}
use Rattle.sched_core.specs.declared.event.Event.TheVariants.{Report}
use Rattle.sched_core.specs.Sums.{sum_below, one_if, put}
use Rattle.sched_core.specs.State.{State, callees_of, callee, IsEdge, leaves, is_waiting, is_begun, is_done, is_held_by, is_empty, is_full, is_emptied, IsThere}
use Rattle.sched_core.specs.Events.{May, step, stages_after_report}
use Rattle.sched_core.specs.Sound.{Sound, holders, unreported_edges}
use Rattle.sched_core.proofs.SumLemmas.{sum_below-same, sum_below-changed, le-sum_below}
use Rattle.sched_core.proofs.Puts.{put-here, put-other, put_keeps}
use Rattle.sched_core.proofs.LeafNumbers.{leaf-callees}
use Rattle.sched_core.proofs.Edges.{put_edge, put_edge_cases, put_edge_keeps}
use Rattle.sched_core.proofs.Draws.{not_begun, not_done, owed_there, owed_once}

-- an edge that is not reported has a pending caller
pub pending_edges-positive : (s : State) (c i : ℕ) → Sound s → IsEdge s.callees c i → (s.edge c i).reported ≡ false → 0 < s.pending_edges c
pending_edges-positive s c i sound edge is =
    let bound : one_if (not (s.edge c i).reported) ≤ unreported_edges s c =
    le-sum_below (length (callees_of s.callees c)) (λ k. one_if (not (s.edge c k).reported)) i edge in
    let one : one_if (not (s.edge c i).reported) ≡ 1 = ap (λ b. one_if (not b)) is in
    omega (arith, sound.pending_edges c)

-- which waits
pub unreported-waits : (s : State) (c i : ℕ) → Sound s → IsEdge s.callees c i → (s.edge c i).reported ≡ false → is_waiting (s.stage c) ≡ true
unreported-waits s c i sound edge is = sound.callers c (omega (arith, edge)) ∙ lt-ltb 0 (s.pending_edges c) (pending_edges-positive s c i sound edge is)

-- the worker that did a module is there
pub doer_there : (s : State) (w m : ℕ) → Sound s → s.stage m ≡ Done w → IsThere s w
doer_there s w m sound done = sound.there m w (ap (is_held_by w) done ∙ eq-eqb w w refl)

-- the caller's edges that are not reported are one less
unreported-less : (s : State) (c i : ℕ) → Sound s → IsEdge s.callees c i → (s.edge c i).reported ≡ false
    → s.pending_edges c - 1 ≡ sum_below (length (callees_of s.callees c)) (λ b. one_if (not (put_edge c i (record (s.edge c i) { reported = true }) s.edge c b).reported))
unreported-less s c i sound edge is =
    let e : Edge = record (s.edge c i) { reported = true } in
    let n : ℕ = length (callees_of s.callees c) in
    let new : ℕ → ℕ = λ b. one_if (not (put_edge c i e s.edge c b).reported) in
    let old : ℕ → ℕ = λ b. one_if (not (s.edge c b).reported) in
    let change : sum_below n new + old i ≡ sum_below n old + new i =
    sum_below-changed n old new i edge (λ b other. ap (λ row. one_if (not (row b).reported)) (put-here c (put i e (s.edge c)) s.edge) ∙ ap (λ x. one_if (not x.reported)) (put-other i e (s.edge c) b other)) in
    let was : old i ≡ 1 = ap (λ b. one_if (not b)) is in
    let now : new i ≡ 0 = ap (λ row. one_if (not (row i).reported)) (put-here c (put i e (s.edge c)) s.edge) ∙ ap (λ x. one_if (not x.reported)) (put-here i e (s.edge c)) in
    let before : s.pending_edges c ≡ sum_below n old = sound.pending_edges c in
    less (s.pending_edges c) (sum_below n old) (sum_below n new) (old i) (new i) before change was now
  where
    less : (p a b x y : ℕ) → p ≡ a → b + x ≡ a + y → x ≡ 1 → y ≡ 0 → p - 1 ≡ b
    less p a b x y e f g h = omega arith

-- what a report leaves of the stages
record Called (s : State) (w c left : ℕ) (stage : ℕ → Stage) : Type 0 where
  dones : (k : ℕ) → is_done (stage k) ≡ is_done (s.stage k)
  begins : (k : ℕ) → is_begun (stage k) ≡ is_begun (s.stage k)
  others : (k : ℕ) → k ≢ c → is_waiting (stage k) ≡ is_waiting (s.stage k)
  here : is_waiting (stage c) ≡ nat_lt 0 left
  one : (k : ℕ) → holders s.workers (stage k) ≡ one_if (not (is_waiting (stage k)))
  there : (k v : ℕ) → is_held_by v (stage k) ≡ true → IsThere s v

called_stages : (s : State) (w c left : ℕ) → Sound s → IsThere s w → is_waiting (s.stage c) ≡ true → Called s w c left (stages_after_report left w c s.stage)
called_stages s w c zero sound there waits = record {
  dones = put_keeps is_done c (Owed w) s.stage (sym (not_done (s.stage c) waits));
  begins = put_keeps is_begun c (Owed w) s.stage (sym (not_begun (s.stage c) waits));
  others = λ k other. ap is_waiting (put-other c (Owed w) s.stage k other);
  here = ap is_waiting (put-here c (Owed w) s.stage);
  one = λ k. owed_once s w c k sound there.0;
  there = λ k v. owed_there s w c v k sound there;
}
called_stages s w c (suc left) sound there waits = record {
  dones = λ k. refl;
  begins = λ k. refl;
  others = λ k other. refl;
  here = waits ∙ sym (lt-ltb 0 (suc left) (omega arith));
  one = sound.one;
  there = sound.there;
}

pub report-sound : (s : State) (w c i : ℕ) → Sound s → May s (Report w c i) → Sound (step s (Report w c i))
report-sound s w c i sound (edge, done, full, open_) = record {
  pending_edges = λ a. go a (cases_eq a c);
  reported = λ a b at. put_edge_cases (λ x. x.reported ≡ true → (is_done (stage (callee s.callees a b)) ≡ true) × (is_empty x.fill ≡ false)) c i e s.edge a b
      (λ here here' is. (stages.dones (callee s.callees a b) ∙ ap is_done (ap s.stage (same_callee a b here here') ∙ done), ap is_empty full))
      (λ is. let old = sound.reported a b at is in (stages.dones (callee s.callees a b) ∙ old.0, old.1));
  unreported = λ a b at. put_edge_cases (λ x. x.reported ≡ false → (is_emptied x.fill ≡ false) × (is_full x.fill ≡ true → is_done (stage (callee s.callees a b)) ≡ true)) c i e s.edge a b
      (λ here here' is. absurd (true≢false is))
      (λ is. let old = sound.unreported a b at is in (old.0, λ filled. stages.dones (callee s.callees a b) ∙ old.1 filled));
  emptied = λ a b at is. stages.begins a ∙ sound.emptied a b at (sym (put_edge_keeps (λ x. is_emptied x.fill) c i e s.edge refl a b) ∙ is);
  done = λ a b at is. put_edge_keeps (λ x. is_emptied x.fill) c i e s.edge refl a b ∙ sound.done a b at (sym (stages.dones a) ∙ is);
  callers = λ a some. by_caller a some (cases_eq a c);
  drawn = λ k m is. stages.others m (λ same. no_leaf k m same is) ∙ sound.drawn k m is;
  one = stages.one;
  there = stages.there;
  workers = sound.workers;
  few = sound.few;
  past = sound.past;
}
  where
    e : Edge
    e = record (s.edge c i) { reported = true }

    left : ℕ
    left = s.pending_edges c - 1

    stage : ℕ → Stage
    stage = stages_after_report (s.pending_edges c - 1) w c s.stage

    stages : Called s w c (s.pending_edges c - 1) (stages_after_report (s.pending_edges c - 1) w c s.stage)
    stages = called_stages s w c (s.pending_edges c - 1) sound (doer_there s w (callee s.callees c i) sound done) (unreported-waits s c i sound edge open_)

    same_callee : (a b : ℕ) → a ≡ c → b ≡ i → callee s.callees a b ≡ callee s.callees c i
    same_callee a b here here' = ap (λ n. callee s.callees n b) here ∙ ap (callee s.callees c) here'

    go : (a : ℕ) → (a ≡ c) ⊎ (a ≢ c) → put c (s.pending_edges c - 1) s.pending_edges a ≡ sum_below (length (callees_of s.callees a)) (λ b. one_if (not (put_edge c i e s.edge a b).reported))
    go a (inl same) =
        let P : ℕ → Type 0 = λ n. put c (s.pending_edges c - 1) s.pending_edges n ≡ sum_below (length (callees_of s.callees n)) (λ b. one_if (not (put_edge c i e s.edge n b).reported)) in
        subst P (sym same) (put-here c (s.pending_edges c - 1) s.pending_edges ∙ unreported-less s c i sound edge open_)
    go a (inr other) = put-other c (s.pending_edges c - 1) s.pending_edges a other ∙ sound.pending_edges a
        ∙ sum_below-same (length (callees_of s.callees a)) (λ b. one_if (not (s.edge a b).reported)) (λ b. one_if (not (put_edge c i e s.edge a b).reported))
        (λ b below. ap (λ row. one_if (not (row b).reported)) (sym (put-other c (put i e (s.edge c)) s.edge a other)))

    by_caller : (a : ℕ) → 0 < length (callees_of s.callees a) → (a ≡ c) ⊎ (a ≢ c) → is_waiting (stages_after_report (s.pending_edges c - 1) w c s.stage a) ≡ nat_lt 0 (put c (s.pending_edges c - 1) s.pending_edges a)
    by_caller a some (inl same) =
        let P : ℕ → Type 0 = λ n. is_waiting (stages_after_report (s.pending_edges c - 1) w c s.stage n) ≡ nat_lt 0 (put c (s.pending_edges c - 1) s.pending_edges n) in
        subst P (sym same) (stages.here ∙ ap (nat_lt 0) (sym (put-here c (s.pending_edges c - 1) s.pending_edges)))
    by_caller a some (inr other) = stages.others a other ∙ sound.callers a some ∙ ap (nat_lt 0) (sym (put-other c (s.pending_edges c - 1) s.pending_edges a other))

    no_leaf : (k m : ℕ) → m ≡ c → slice_get (leaves s.callees) k ≡ Some m → ⊥
    no_leaf k m same is =
        let none : callees_of s.callees c ≡ [] = ap (callees_of s.callees) (sym same) ∙ leaf-callees s.callees k m is in
        let count : length (callees_of s.callees c) ≡ 0 = ap length none in
        omega (arith, edge)
