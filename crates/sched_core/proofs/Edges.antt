-- Events that keep a state sound: an edge is emptied or filled.
use Rattle.std.proofs.Common.{◌≡◌, ℕ, ◌<◌, ◌≤◌, Bool, true, false, not, length, refl, sym, ap, subst, ◌∙◌, arith}
use Rattle.std.proofs.lemmas.Bool.{true≢false, false≢true, ltb-false}
use Rattle.sched_core.specs.declared.parts.Fill.TheVariants.{Full, Emptied}
use Rattle.sched_core.specs.declared.parts.Edge.{Edge}
use Rattle.sched_core.specs.declared.event.Event.TheVariants.{TakeEdge, PutEdge}
use Rattle.sched_core.specs.Sums.{one_if, put}
use Rattle.sched_core.specs.State.{State, callees_of, callee, IsEdge, is_waiting, is_begun, is_done, is_empty, is_full, is_emptied}
use Rattle.sched_core.specs.Events.{May, step, with_edge}
use Rattle.sched_core.specs.Sound.{Sound, unreported_edges}
use Rattle.sched_core.proofs.SumLemmas.{sum_below-same, none_of_sum, one_if-zero}
use Rattle.sched_core.proofs.Puts.{put_cases}

-- the map of edges with e at (c, i)
abbrev pub put_edge : ℕ → ℕ → Edge → (ℕ → ℕ → Edge) → ℕ → ℕ → Edge
put_edge c i e edge = put c (put i e (edge c)) edge

-- what holds of the new edge, and of the old ones elsewhere, holds of each edge
pub put_edge_cases : (P : Edge → Type 0) (c i : ℕ) (e : Edge) (edge : ℕ → ℕ → Edge) (a b : ℕ)
    → (a ≡ c → b ≡ i → P e) → P (edge a b) → P (put_edge c i e edge a b)
put_edge_cases P c i e edge a b here other =
    put_cases (λ row. P (row b)) c (put i e (edge c)) edge a
    (λ same. put_cases P i e (edge c) b (here same) (λ apart. subst (λ n. P (edge n b)) same other))
    (λ apart. other)

pub put_edge_keeps : {B : Type 0} (part : Edge → B) (c i : ℕ) (e : Edge) (edge : ℕ → ℕ → Edge) → part e ≡ part (edge c i)
    → (a b : ℕ) → part (put_edge c i e edge a b) ≡ part (edge a b)
put_edge_keeps part c i e edge same a b =
    put_edge_cases (λ x. part x ≡ part (edge a b)) c i e edge a b
    (λ at. λ at'. same ∙ sym (subst (λ n. part (edge n b) ≡ part (edge c i)) (sym at) (subst (λ k. part (edge c k) ≡ part (edge c i)) (sym at') refl)))
    refl

-- a module that does not wait has all its edges reported
pub reported_unless_waiting : (s : State) (c i : ℕ) → Sound s → is_waiting (s.stage c) ≡ false → IsEdge s.callees c i → (s.edge c i).reported ≡ true
reported_unless_waiting s c i sound not_waiting edge =
    let some : 0 < length (callees_of s.callees c) = omega (arith, edge) in
    let none : s.pending_edges c ≤ 0 = ltb-false 0 (s.pending_edges c) (sym (sound.callers c some) ∙ not_waiting) in
    let sum : unreported_edges s c ≡ 0 = omega (arith, sound.pending_edges c) in
    let here : one_if (not (s.edge c i).reported) ≡ 0 =
    none_of_sum (length (callees_of s.callees c)) (λ k. one_if (not (s.edge c k).reported)) sum i edge in
    is_true (s.edge c i).reported (one_if-zero (not (s.edge c i).reported) here)
  where
    is_true : (b : Bool) → not b ≡ false → b ≡ true
    is_true true is = refl
    is_true false is = absurd (true≢false is)

-- another edge at (c, i) that is reported where the old one was
pub record Refilled (s : State) (c i : ℕ) (e : Edge) : Type 0 where
  pub same : e.reported ≡ (s.edge c i).reported
  pub reported : e.reported ≡ true → is_empty e.fill ≡ false
  pub unreported : e.reported ≡ false → (is_emptied e.fill ≡ false) × (is_full e.fill ≡ true → is_done (s.stage (callee s.callees c i)) ≡ true)
  pub emptied : is_emptied e.fill ≡ true → is_begun (s.stage c) ≡ true
  pub done : is_done (s.stage c) ≡ true → is_emptied e.fill ≡ true

pub refilled : (s : State) (c i : ℕ) (e : Edge) → Sound s → IsEdge s.callees c i → Refilled s c i e → Sound (with_edge s c i e)
refilled s c i e sound edge fits = record {
  pending_edges = λ a. sound.pending_edges a ∙ sum_below-same (length (callees_of s.callees a)) (λ b. one_if (not (s.edge a b).reported)) (λ b. one_if (not (put_edge c i e s.edge a b).reported))
      (λ b below. ap (λ r. one_if (not r)) (sym (put_edge_keeps (λ x. x.reported) c i e s.edge fits.same a b)));
  reported = λ a b at. put_edge_cases (λ x. x.reported ≡ true → (is_done (s.stage (callee s.callees a b)) ≡ true) × (is_empty x.fill ≡ false)) c i e s.edge a b
      (λ here here' is. (done_there a b here here' (sym fits.same ∙ is), fits.reported is)) (sound.reported a b at);
  unreported = λ a b at. put_edge_cases (λ x. x.reported ≡ false → (is_emptied x.fill ≡ false) × (is_full x.fill ≡ true → is_done (s.stage (callee s.callees a b)) ≡ true)) c i e s.edge a b
      (λ here here' is. let new = fits.unreported is in (new.0, λ full. moved_done a b here here' (new.1 full))) (sound.unreported a b at);
  emptied = λ a b at. put_edge_cases (λ x. is_emptied x.fill ≡ true → is_begun (s.stage a) ≡ true) c i e s.edge a b
      (λ here here' is. subst (λ n. is_begun (s.stage n) ≡ true) (sym here) (fits.emptied is)) (sound.emptied a b at);
  done = λ a b at was. put_edge_cases (λ x. is_emptied x.fill ≡ true) c i e s.edge a b
      (λ here here'. fits.done (subst (λ n. is_done (s.stage n) ≡ true) here was)) (sound.done a b at was);
  callers = sound.callers;
  drawn = sound.drawn;
  one = sound.one;
  there = sound.there;
  workers = sound.workers;
  few = sound.few;
  past = sound.past;
}
  where
    moved_done : (a b : ℕ) → a ≡ c → b ≡ i → is_done (s.stage (callee s.callees c i)) ≡ true → is_done (s.stage (callee s.callees a b)) ≡ true
    moved_done a b here here' is =
        subst (λ n. is_done (s.stage (callee s.callees n b)) ≡ true) (sym here) (subst (λ k. is_done (s.stage (callee s.callees c k)) ≡ true) (sym here') is)

    done_there : (a b : ℕ) → a ≡ c → b ≡ i → (s.edge c i).reported ≡ true → is_done (s.stage (callee s.callees a b)) ≡ true
    done_there a b here here' is = moved_done a b here here' (sound.reported c i edge is).0

pub take_edge-sound : (s : State) (w c i : ℕ) → Sound s → May s (TakeEdge w c i) → Sound (step s (TakeEdge w c i))
take_edge-sound s w c i sound (edge, taken, full) = refilled s c i (record (s.edge c i) { fill = Emptied }) sound edge (record {
  same = refl;
  reported = λ is. refl;
  unreported = λ is. absurd (true≢false (sym (reported_unless_waiting s c i sound (ap is_waiting taken) edge) ∙ is));
  emptied = λ is. ap is_begun taken;
  done = λ is. refl;
})

pub put_edge-sound : (s : State) (w c i : ℕ) → Sound s → May s (PutEdge w c i) → Sound (step s (PutEdge w c i))
put_edge-sound s w c i sound (edge, done, empty) = refilled s c i (record (s.edge c i) { fill = Full }) sound edge (record {
  same = refl;
  reported = λ is. refl;
  unreported = λ is. (refl, λ full. ap is_done done);
  emptied = λ is. absurd (false≢true is);
  done = λ is. absurd (true≢false (sym (sound.done c i edge is) ∙ ap is_emptied empty));
})
