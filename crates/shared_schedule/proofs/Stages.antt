-- A module's stage changes: what that is to the worker that changes it, and to the others.
use Rattle.std.proofs.Common.{◌≡◌, ◌≢◌, ℕ, Bool, true, false, cond, ◌&&◌, ◌∷◌, Some, None, refl, sym, ap, ◌∙◌}
use Rattle.std.specs.Prelude.{◌==◌}
use Rattle.std.proofs.lemmas.Bool.{false≢true, eqb-true, eq-eqb, ne_eqb, cond-true, cond-false}
use Rattle.sched_core.specs.declared.parts.Stage.{Stage}
use Rattle.sched_core.specs.declared.parts.Stage.TheVariants.{Waiting, Owed, Taken, Done}
use Rattle.sched_core.specs.Sums.{put}
use Rattle.sched_core.specs.State.{State, callee, IsEdge, is_emptied, is_begun, is_done}
use Rattle.sched_core.specs.Sound.{Sound}
use Rattle.sched_core.proofs.Puts.{put_cases, put_keeps}
use Rattle.shared_schedule.specs.declared.view.Hold.{Hold}
use Rattle.shared_schedule.specs.declared.view.Hold.TheVariants.{Due, Begun, Over}
use Rattle.shared_schedule.specs.declared.view.TableSlot.{TableSlot}
use Rattle.shared_schedule.specs.declared.view.View.{View}
use Rattle.shared_schedule.specs.Views.{hold_of, is_held, is_over, Tells}
use Rattle.shared_schedule.proofs.Lookups.{moves-put, once-put}
use Rattle.shared_schedule.proofs.Staying.{Quiet}

-- what each stage is to its worker, and to others
pub owed-own : (w : ℕ) → hold_of w (Owed w) ≡ Some Due
owed-own w = cond-true (w == w) (Some Due) None (eq-eqb w w refl)

pub taken-own : (w : ℕ) → hold_of w (Taken w) ≡ Some Begun
taken-own w = cond-true (w == w) (Some Begun) None (eq-eqb w w refl)

pub done-own : (w : ℕ) → hold_of w (Done w) ≡ Some Over
done-own w = cond-true (w == w) (Some Over) None (eq-eqb w w refl)

pub owed-other : (u w : ℕ) → u ≢ w → hold_of u (Owed w) ≡ None
owed-other u w apart = cond-false (u == w) (Some Due) None (ne_eqb u w apart)

pub taken-other : (u w : ℕ) → u ≢ w → hold_of u (Taken w) ≡ None
taken-other u w apart = cond-false (u == w) (Some Begun) None (ne_eqb u w apart)

pub done-other : (u w : ℕ) → u ≢ w → hold_of u (Done w) ≡ None
done-other u w apart = cond-false (u == w) (Some Over) None (ne_eqb u w apart)

-- two tests that agree where a third passes agree beside it
pub and-same : (b x y : Bool) → (b ≡ true → x ≡ y) → (b && x) ≡ (b && y)
and-same true x y same = same refl
and-same false x y same = refl

-- another worker, to which the stage was and is the same
pub quiet-stage : (s : State) (m : ℕ) (x : Stage) (u : ℕ) → hold_of u x ≡ hold_of u (s.stage m) → Quiet s (record s { stage = put m x s.stage }) u
quiet-stage s m x u same = record {
  holds = holds;
  emptied = λ c i at. ap (λ h. is_emptied (s.edge c i).fill && is_held h) (holds c);
  told = λ c i at. ap (λ h. (s.edge c i).reported && is_over h) (holds (callee s.callees c i));
  worker = refl;
  splits = λ first. refl;
}
  where
    holds : (k : ℕ) → hold_of u (put m x s.stage k) ≡ hold_of u (s.stage k)
    holds = put_keeps (hold_of u) m x s.stage same

-- the worker itself, with one more move
pub tells-stage : {P : Type 0} (s : State) (w m : ℕ) (h : Hold) (x : Stage) (v : View P) (o : TableSlot) → Tells s w v → hold_of w x ≡ Some h → is_over (hold_of w (s.stage m)) ≡ false
    → ((c i : ℕ) → IsEdge s.callees c i → c ≡ m → is_emptied (s.edge c i).fill ≡ true → is_held (hold_of w (s.stage c)) ≡ is_held (hold_of w x))
    → ((c i : ℕ) → IsEdge s.callees c i → callee s.callees c i ≡ m → (s.edge c i).reported ≡ true → is_over (hold_of w (s.stage (callee s.callees c i))) ≡ is_over (hold_of w x))
    → Tells (record s { stage = put m x s.stage }) w (record v { moves = (m, h) ∷ v.moves; out = o })
tells-stage s w m h x v o t is before held over = record {
  moves = moves-put v.moves w m h x s.stage is t.moves;
  once = once-put v.moves w m h x s.stage is before t.once;
  emptied = λ c i at. t.emptied c i at ∙ sym (put_cases (λ y. (is_emptied (s.edge c i).fill && is_held (hold_of w y)) ≡ (is_emptied (s.edge c i).fill && is_held (hold_of w (s.stage c)))) m x s.stage c
      (λ here. sym (and-same (is_emptied (s.edge c i).fill) (is_held (hold_of w (s.stage c))) (is_held (hold_of w x)) (held c i at here)))
      (λ other. refl));
  told = λ c i at. let k : ℕ = callee s.callees c i in
      t.told c i at ∙ sym (put_cases (λ y. ((s.edge c i).reported && is_over (hold_of w y)) ≡ ((s.edge c i).reported && is_over (hold_of w (s.stage k)))) m x s.stage k
      (λ here. sym (and-same (s.edge c i).reported (is_over (hold_of w (s.stage k))) (is_over (hold_of w x)) (over c i at here)))
      (λ other. refl));
  passed = t.passed;
  here = t.here;
  splits = t.splits;
  shares = t.shares;
}

-- a waiting module comes to be owed
pub tells-owed : {P : Type 0} (s : State) (w m : ℕ) (v : View P) (o : TableSlot) → Sound s → Tells s w v → s.stage m ≡ Waiting
    → Tells (record s { stage = put m (Owed w) s.stage }) w (record v { moves = (m, Due) ∷ v.moves; out = o })
tells-owed s w m v o sound t waits = tells-stage s w m Due (Owed w) v o t (owed-own w) (ap (λ y. is_over (hold_of w y)) waits)
    (λ c i at here emptied. absurd (false≢true (sym (ap (λ k. is_begun (s.stage k)) here ∙ ap is_begun waits) ∙ sound.emptied c i at emptied)))
    (λ c i at here reported. ap (λ k. is_over (hold_of w (s.stage k))) here ∙ ap (λ y. is_over (hold_of w y)) waits ∙ sym (ap is_over (owed-own w)))

-- an owed module comes to be taken
pub tells-taken : {P : Type 0} (s : State) (w m : ℕ) (v : View P) (o : TableSlot) → Tells s w v → s.stage m ≡ Owed w
    → Tells (record s { stage = put m (Taken w) s.stage }) w (record v { moves = (m, Begun) ∷ v.moves; out = o })
tells-taken s w m v o t owed = tells-stage s w m Begun (Taken w) v o t (taken-own w) (ap (λ y. is_over (hold_of w y)) owed ∙ ap is_over (owed-own w))
    (λ c i at here emptied. ap (λ k. is_held (hold_of w (s.stage k))) here ∙ ap (λ y. is_held (hold_of w y)) owed ∙ ap is_held (owed-own w) ∙ sym (ap is_held (taken-own w)))
    (λ c i at here reported. ap (λ k. is_over (hold_of w (s.stage k))) here ∙ ap (λ y. is_over (hold_of w y)) owed ∙ ap is_over (owed-own w) ∙ sym (ap is_over (taken-own w)))

-- a taken module comes to be done
pub tells-done : {P : Type 0} (s : State) (w m : ℕ) (v : View P) (o : TableSlot) → Sound s → Tells s w v → s.stage m ≡ Taken w
    → Tells (record s { stage = put m (Done w) s.stage }) w (record v { moves = (m, Over) ∷ v.moves; out = o })
tells-done s w m v o sound t taken = tells-stage s w m Over (Done w) v o t (done-own w) (ap (λ y. is_over (hold_of w y)) taken ∙ ap is_over (taken-own w))
    (λ c i at here emptied. ap (λ k. is_held (hold_of w (s.stage k))) here ∙ ap (λ y. is_held (hold_of w y)) taken ∙ ap is_held (taken-own w) ∙ sym (ap is_held (done-own w)))
    (λ c i at here reported. absurd (false≢true (sym (ap (λ k. is_done (s.stage k)) here ∙ ap is_done taken) ∙ (sound.reported c i at reported).0)))

cond-some : (b : Bool) (x y : Hold) → cond b (Some x) None ≡ Some y → (b ≡ true) × (x ≡ y)
cond-some true x y is = (refl, cc)
cond-some false x y is = absurd (cc)

-- what a worker owes, has taken or did is at that stage
pub due-stage : (w : ℕ) (x : Stage) → hold_of w x ≡ Some Due → x ≡ Owed w
due-stage w Waiting is = absurd (cc)
due-stage w (Owed v) is = ap Owed (sym (eqb-true w v (cond-some (w == v) Due Due is).0))
due-stage w (Taken v) is = let e : Begun ≡ Due = (cond-some (w == v) Begun Due is).1 in absurd (cc)
due-stage w (Done v) is = let e : Over ≡ Due = (cond-some (w == v) Over Due is).1 in absurd (cc)

pub begun-stage : (w : ℕ) (x : Stage) → hold_of w x ≡ Some Begun → x ≡ Taken w
begun-stage w Waiting is = absurd (cc)
begun-stage w (Owed v) is = let e : Due ≡ Begun = (cond-some (w == v) Due Begun is).1 in absurd (cc)
begun-stage w (Taken v) is = ap Taken (sym (eqb-true w v (cond-some (w == v) Begun Begun is).0))
begun-stage w (Done v) is = let e : Over ≡ Begun = (cond-some (w == v) Over Begun is).1 in absurd (cc)

pub over-stage : (w : ℕ) (x : Stage) → hold_of w x ≡ Some Over → x ≡ Done w
over-stage w Waiting is = absurd (cc)
over-stage w (Owed v) is = let e : Due ≡ Over = (cond-some (w == v) Due Over is).1 in absurd (cc)
over-stage w (Taken v) is = let e : Begun ≡ Over = (cond-some (w == v) Begun Over is).1 in absurd (cc)
over-stage w (Done v) is = ap Done (sym (eqb-true w v (cond-some (w == v) Over Over is).0))
