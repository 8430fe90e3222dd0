-- An edge changes: what that is to the worker that changes it, and to the others.
use Rattle.std.proofs.Common.{◌≡◌, ℕ, ◌⊎◌, true, false, ◌&&◌, ◌∷◌, refl, sym, ap, subst, ◌∙◌, inl, inr}
use Rattle.std.proofs.lemmas.Bool.{true≢false}
use Rattle.sched_core.specs.declared.parts.Edge.{Edge}
use Rattle.sched_core.specs.declared.parts.Fill.{Fill}
use Rattle.sched_core.specs.declared.parts.Fill.TheVariants.{Empty, Full, Emptied}
use Rattle.sched_core.specs.State.{State, callee, IsEdge, is_empty, is_emptied}
use Rattle.sched_core.proofs.Edges.{put_edge, put_edge_cases, put_edge_keeps}
use Rattle.shared_schedule.specs.declared.view.View.{View}
use Rattle.shared_schedule.specs.Views.{hold_of, is_held, is_over, has_edge, Tells}
use Rattle.shared_schedule.specs.Plays.{cleared}
use Rattle.shared_schedule.specs.declared.view.TableSlot.TheVariants.{Nowhere}
use Rattle.shared_schedule.proofs.Lookups.{edge-here, edge-other}
use Rattle.shared_schedule.proofs.Staying.{Quiet}
use Rattle.shared_schedule.proofs.Positions.{edge-cases, put_edge-here, put_edge-other}

-- another worker, to which the edge was and is the same
pub quiet-edge : (s : State) (c i : ℕ) (e : Edge) (u : ℕ)
    → (is_emptied e.fill && is_held (hold_of u (s.stage c))) ≡ (is_emptied (s.edge c i).fill && is_held (hold_of u (s.stage c)))
    → (e.reported && is_over (hold_of u (s.stage (callee s.callees c i)))) ≡ ((s.edge c i).reported && is_over (hold_of u (s.stage (callee s.callees c i))))
    → Quiet s (record s { edge = put_edge c i e s.edge }) u
quiet-edge s c i e u emptied told = record {
  holds = λ k. refl;
  emptied = λ a b at. put_edge_cases (λ x. (is_emptied x.fill && is_held (hold_of u (s.stage a))) ≡ (is_emptied (s.edge a b).fill && is_held (hold_of u (s.stage a)))) c i e s.edge a b
      (λ here here'. subst (λ n. (is_emptied e.fill && is_held (hold_of u (s.stage n))) ≡ (is_emptied (s.edge n b).fill && is_held (hold_of u (s.stage n)))) (sym here)
      (subst (λ k. (is_emptied e.fill && is_held (hold_of u (s.stage c))) ≡ (is_emptied (s.edge c k).fill && is_held (hold_of u (s.stage c)))) (sym here') emptied))
      refl;
  told = λ a b at. put_edge_cases (λ x. (x.reported && is_over (hold_of u (s.stage (callee s.callees a b)))) ≡ ((s.edge a b).reported && is_over (hold_of u (s.stage (callee s.callees a b))))) c i e s.edge a b
      (λ here here'. subst (λ n. (e.reported && is_over (hold_of u (s.stage (callee s.callees n b)))) ≡ ((s.edge n b).reported && is_over (hold_of u (s.stage (callee s.callees n b))))) (sym here)
      (subst (λ k. (e.reported && is_over (hold_of u (s.stage (callee s.callees c k)))) ≡ ((s.edge c k).reported && is_over (hold_of u (s.stage (callee s.callees c k))))) (sym here') told))
      refl;
  worker = refl;
  splits = λ first. refl;
}

-- an edge of a module that the worker holds is emptied
pub tells-cleared : {P : Type 0} (s : State) (w c i : ℕ) (e : Edge) (v : View P) → Tells s w v → is_held (hold_of w (s.stage c)) ≡ true → e.fill ≡ Emptied → e.reported ≡ (s.edge c i).reported
    → Tells (record s { edge = put_edge c i e s.edge }) w (cleared v c i)
tells-cleared s w c i e v t held emptied same = record {
  moves = t.moves;
  once = t.once;
  emptied = λ a b at. by_edge a b at (edge-cases c i a b);
  told = λ a b at. t.told a b at ∙ ap (λ r. r && is_over (hold_of w (s.stage (callee s.callees a b)))) (sym (put_edge_keeps (λ x. x.reported) c i e s.edge same a b));
  passed = t.passed;
  here = t.here;
  splits = t.splits;
  shares = t.shares;
}
  where
    by_edge : (a b : ℕ) → IsEdge s.callees a b → ((a ≡ c) × (b ≡ i)) ⊎ (a ≡ c → b ≡ i → ⊥)
        → has_edge ((c, i) ∷ v.emptied) a b ≡ (is_emptied (put_edge c i e s.edge a b).fill && is_held (hold_of w (s.stage a)))
    by_edge a b at (inl (e1, e2)) =
        subst (λ n. has_edge ((c, i) ∷ v.emptied) n b ≡ (is_emptied (put_edge c i e s.edge n b).fill && is_held (hold_of w (s.stage n)))) (sym e1)
        (subst (λ k. has_edge ((c, i) ∷ v.emptied) c k ≡ (is_emptied (put_edge c i e s.edge c k).fill && is_held (hold_of w (s.stage c)))) (sym e2)
        (edge-here c i v.emptied ∙ sym held ∙ ap (λ f. is_emptied f && is_held (hold_of w (s.stage c))) (sym (ap (λ x. x.fill) (put_edge-here c i e s.edge) ∙ emptied))))
    by_edge a b at (inr apart) = edge-other c i a b v.emptied apart ∙ t.emptied a b at
        ∙ ap (λ x. is_emptied x.fill && is_held (hold_of w (s.stage a))) (sym (put_edge-other c i e s.edge a b apart))

-- an edge whose callee the worker did is reported
pub tells-told : {P : Type 0} (s : State) (w c i : ℕ) (e : Edge) (v : View P) → Tells s w v → is_over (hold_of w (s.stage (callee s.callees c i))) ≡ true
    → is_emptied e.fill ≡ is_emptied (s.edge c i).fill → e.reported ≡ true
    → Tells (record s { edge = put_edge c i e s.edge }) w (record v { told = (c, i) ∷ v.told; out = Nowhere })
tells-told s w c i e v t over same reported = record {
  moves = t.moves;
  once = t.once;
  emptied = λ a b at. t.emptied a b at ∙ ap (λ r. r && is_held (hold_of w (s.stage a))) (sym (put_edge_keeps (λ x. is_emptied x.fill) c i e s.edge same a b));
  told = λ a b at. by_edge a b at (edge-cases c i a b);
  passed = t.passed;
  here = t.here;
  splits = t.splits;
  shares = t.shares;
}
  where
    by_edge : (a b : ℕ) → IsEdge s.callees a b → ((a ≡ c) × (b ≡ i)) ⊎ (a ≡ c → b ≡ i → ⊥)
        → has_edge ((c, i) ∷ v.told) a b ≡ ((put_edge c i e s.edge a b).reported && is_over (hold_of w (s.stage (callee s.callees a b))))
    by_edge a b at (inl (e1, e2)) =
        subst (λ n. has_edge ((c, i) ∷ v.told) n b ≡ ((put_edge c i e s.edge n b).reported && is_over (hold_of w (s.stage (callee s.callees n b))))) (sym e1)
        (subst (λ k. has_edge ((c, i) ∷ v.told) c k ≡ ((put_edge c i e s.edge c k).reported && is_over (hold_of w (s.stage (callee s.callees c k))))) (sym e2)
        (edge-here c i v.told ∙ sym over ∙ ap (λ r. r && is_over (hold_of w (s.stage (callee s.callees c i)))) (sym (ap (λ x. x.reported) (put_edge-here c i e s.edge) ∙ reported))))
    by_edge a b at (inr apart) = edge-other c i a b v.told apart ∙ t.told a b at
        ∙ ap (λ x. x.reported && is_over (hold_of w (s.stage (callee s.callees a b)))) (sym (put_edge-other c i e s.edge a b apart))

-- an edge that is not empty and not emptied is full
pub full-fill : (f : Fill) → is_empty f ≡ false → is_emptied f ≡ false → f ≡ Full
full-fill Empty some new = absurd (true≢false some)
full-fill Full some new = refl
full-fill Emptied some new = absurd (true≢false new)
