-- Events that keep a state sound: a module is taken or done, a worker goes.
use Rattle.std.proofs.Common.{◌≡◌, ◌≢◌, ℕ, ◌<◌, ◌⊎◌, Bool, true, false, not, refl, sym, ap, subst, ◌∙◌, inl, inr}
use Rattle.std.specs.Prelude.{◌==◌}
use Rattle.std.proofs.lemmas.Bool.{true≢false, false≢true, eqb-true, eqb-false, cond_both}
use Rattle.sched_core.specs.declared.parts.Stage.{Stage}
use Rattle.sched_core.specs.declared.parts.Stage.TheVariants.{Waiting, Owed, Taken, Done}
use Rattle.sched_core.specs.declared.event.Event.TheVariants.{Take, PutDone, Join}
use Rattle.sched_core.specs.Sums.{sum_below, one_if, put}
use Rattle.sched_core.specs.State.{State, callee, IsEdge, is_waiting, is_begun, is_done, is_held_by, is_busy_with, is_emptied, IsThere}
use Rattle.sched_core.specs.Events.{May, step, reassign}
use Rattle.sched_core.specs.Sound.{Sound, holders}
use Rattle.sched_core.proofs.SumLemmas.{sum_below-same, sum_below-one}
use Rattle.sched_core.proofs.Puts.{put_cases, put_keeps}

-- other stages of the modules, none of which comes to wait or ceases to wait
pub record Moved (s : State) (stage : ℕ → Stage) : Type 0 where
  pub waits : (k : ℕ) → is_waiting (stage k) ≡ is_waiting (s.stage k)
  pub begins : (k : ℕ) → is_begun (s.stage k) ≡ true → is_begun (stage k) ≡ true
  pub dones : (k : ℕ) → is_done (s.stage k) ≡ true → is_done (stage k) ≡ true
  pub ends : (k i : ℕ) → IsEdge s.callees k i → is_done (stage k) ≡ true → is_emptied (s.edge k i).fill ≡ true
  pub holds : (k : ℕ) → holders s.workers (stage k) ≡ holders s.workers (s.stage k)
  pub attended : (k w : ℕ) → is_held_by w (stage k) ≡ true → IsThere s w

pub moved : (s : State) (stage : ℕ → Stage) → Sound s → Moved s stage → Sound (record s { stage = stage })
moved s stage sound move = record {
  pending_edges = sound.pending_edges;
  reported = λ c i edge is. let old = sound.reported c i edge is in (move.dones (callee s.callees c i) old.0, old.1);
  unreported = λ c i edge is. let old = sound.unreported c i edge is in (old.0, λ full. move.dones (callee s.callees c i) (old.1 full));
  emptied = λ c i edge is. move.begins c (sound.emptied c i edge is);
  done = move.ends;
  callers = λ m some. move.waits m ∙ sound.callers m some;
  drawn = λ k m is. move.waits m ∙ sound.drawn k m is;
  one = λ m. move.holds m ∙ sound.one m ∙ ap (λ b. one_if (not b)) (sym (move.waits m));
  there = move.attended;
  workers = sound.workers;
  few = sound.few;
  past = sound.past;
}

pub take-sound : (s : State) (w m : ℕ) → Sound s → May s (Take w m) → Sound (step s (Take w m))
take-sound s w m sound owed = moved s (put m (Taken w) s.stage) sound (record {
  waits = put_keeps is_waiting m (Taken w) s.stage (sym (ap is_waiting owed));
  begins = λ k was. put_cases (λ x. is_begun x ≡ true) m (Taken w) s.stage k (λ here. refl) (λ other. was);
  dones = λ k was. put_keeps is_done m (Taken w) s.stage (sym (ap is_done owed)) k ∙ was;
  ends = λ k i edge is. sound.done k i edge (sym (put_keeps is_done m (Taken w) s.stage (sym (ap is_done owed)) k) ∙ is);
  holds = put_keeps (holders s.workers) m (Taken w) s.stage (sym (ap (holders s.workers) owed));
  attended = λ k v. put_cases (λ x. is_held_by v x ≡ true → IsThere s v) m (Taken w) s.stage k
      (λ here is. sound.there m v (ap (is_held_by v) owed ∙ is)) (λ other is. sound.there k v is);
})

pub put_done-sound : (s : State) (w m : ℕ) → Sound s → May s (PutDone w m) → Sound (step s (PutDone w m))
put_done-sound s w m sound may = moved s (put m (Done w) s.stage) sound (record {
  waits = put_keeps is_waiting m (Done w) s.stage (sym (ap is_waiting may.0));
  begins = put_keeps_true is_begun refl;
  dones = put_keeps_true is_done refl;
  ends = λ k i edge. put_cases (λ x. is_done x ≡ true → is_emptied (s.edge k i).fill ≡ true) m (Done w) s.stage k
      (λ here is. emptied_at k i here edge) (λ other is. sound.done k i edge is);
  holds = put_keeps (holders s.workers) m (Done w) s.stage (sym (ap (holders s.workers) may.0));
  attended = λ k v. put_cases (λ x. is_held_by v x ≡ true → IsThere s v) m (Done w) s.stage k
      (λ here is. sound.there m v (ap (is_held_by v) may.0 ∙ is)) (λ other is. sound.there k v is);
})
  where
    put_keeps_true : (test : Stage → Bool) → test (Done w) ≡ true → (k : ℕ) → test (s.stage k) ≡ true → test (put m (Done w) s.stage k) ≡ true
    put_keeps_true test new k was = put_cases (λ x. test x ≡ true) m (Done w) s.stage k (λ here. new) (λ other. was)

    emptied_at : (k i : ℕ) → k ≡ m → IsEdge s.callees k i → is_emptied (s.edge k i).fill ≡ true
    emptied_at k i here edge =
        let P : ℕ → Type 0 = λ n. IsEdge s.callees n i → is_emptied (s.edge n i).fill ≡ true in
        subst P (sym here) (λ at. ap is_emptied (may.1 i at)) edge

-- what passes to another worker stays waiting, begun or done
pub is_waiting-reassign : (kept gone : ℕ) (x : Stage) → is_waiting (reassign kept gone x) ≡ is_waiting x
is_waiting-reassign kept gone Waiting = refl
is_waiting-reassign kept gone (Owed w) = refl
is_waiting-reassign kept gone (Taken w) = refl
is_waiting-reassign kept gone (Done w) = refl

pub is_begun-reassign : (kept gone : ℕ) (x : Stage) → is_begun (reassign kept gone x) ≡ is_begun x
is_begun-reassign kept gone Waiting = refl
is_begun-reassign kept gone (Owed w) = refl
is_begun-reassign kept gone (Taken w) = refl
is_begun-reassign kept gone (Done w) = refl

pub is_done-reassign : (kept gone : ℕ) (x : Stage) → is_done (reassign kept gone x) ≡ is_done x
is_done-reassign kept gone Waiting = refl
is_done-reassign kept gone (Owed w) = refl
is_done-reassign kept gone (Taken w) = refl
is_done-reassign kept gone (Done w) = refl

pub is_busy_with-reassign : (kept gone v : ℕ) (x : Stage) → is_busy_with v (reassign kept gone x) ≡ is_busy_with v x
is_busy_with-reassign kept gone v Waiting = refl
is_busy_with-reassign kept gone v (Owed w) = refl
is_busy_with-reassign kept gone v (Taken w) = refl
is_busy_with-reassign kept gone v (Done w) = refl

-- a module has as many holders afterwards
pub holders-reassign : (n kept gone : ℕ) → kept < n → gone < n → (x : Stage) → holders n (reassign kept gone x) ≡ holders n x
holders-reassign n kept gone keeps goes Waiting = refl
holders-reassign n kept gone keeps goes (Owed w) = refl
holders-reassign n kept gone keeps goes (Taken w) = refl
holders-reassign n kept gone keeps goes (Done w) =
    cond_both (w == gone) kept w (λ y. sum_below n (λ v. one_if (v == y)) ≡ sum_below n (λ v. one_if (v == w)))
    (λ is. sum_below-one n kept keeps ∙ sym (sum_below-one n w (subst (λ v. v < n) (sym (eqb-true w gone is)) goes)))
    (λ is. refl)

-- who holds a module afterwards held it before or is the one that keeps, and has not gone
held_afterwards : (kept gone v : ℕ) (x : Stage) → kept ≢ gone → is_busy_with gone x ≡ false → is_held_by v (reassign kept gone x) ≡ true
    → ((v ≡ kept) ⊎ (is_held_by v x ≡ true)) × (v ≢ gone)
held_afterwards kept gone v Waiting apart free is = absurd (false≢true is)
held_afterwards kept gone v (Owed w) apart free is =
    (inr is, λ same. true≢false (sym (subst (λ n. (n == w) ≡ true) same is) ∙ free))
held_afterwards kept gone v (Taken w) apart free is =
    (inr is, λ same. true≢false (sym (subst (λ n. (n == w) ≡ true) same is) ∙ free))
held_afterwards kept gone v (Done w) apart free is =
    cond_both (w == gone) kept w (λ y. (v == y) ≡ true → ((v ≡ kept) ⊎ ((v == w) ≡ true)) × (v ≢ gone))
    (λ passes here. (inl (eqb-true v kept here), λ same. apart (sym (eqb-true v kept here) ∙ same)))
    (λ stays here. (inr here, λ same. eqb-false w gone stays (sym (eqb-true v w here) ∙ same)))
    is

pub join-sound : (s : State) (kept gone : ℕ) → Sound s → May s (Join kept gone) → Sound (step s (Join kept gone))
join-sound s kept gone sound (apart, keeps, goes, free, told) = record {
  pending_edges = passes.pending_edges;
  reported = passes.reported;
  unreported = passes.unreported;
  emptied = passes.emptied;
  done = passes.done;
  callers = passes.callers;
  drawn = passes.drawn;
  one = passes.one;
  there = λ m v is. still_there m v is;
  workers = passes.workers;
  few = passes.few;
  past = sum_below-same s.workers (λ w. one_if ((put gone (record (s.worker gone) { gone = true }) s.worker) w).passed) (λ w. one_if (s.worker w).passed)
      (λ w below. put_keeps (λ v. one_if v.passed) gone (record (s.worker gone) { gone = true }) s.worker refl w) ∙ sound.past;
}
  where
    holder_there : (m v : ℕ) → (v ≡ kept) ⊎ (is_held_by v (s.stage m) ≡ true) → IsThere s v
    holder_there m v (inl same) = subst (λ n. IsThere s n) (sym same) keeps
    holder_there m v (inr held) = sound.there m v held

    passes : Sound (record s { stage = λ m. reassign kept gone (s.stage m) })
    passes = moved s (λ m. reassign kept gone (s.stage m)) sound (record {
      waits = λ k. is_waiting-reassign kept gone (s.stage k);
      begins = λ k was. is_begun-reassign kept gone (s.stage k) ∙ was;
      dones = λ k was. is_done-reassign kept gone (s.stage k) ∙ was;
      ends = λ k i edge is. sound.done k i edge (sym (is_done-reassign kept gone (s.stage k)) ∙ is);
      holds = λ k. holders-reassign s.workers kept gone keeps.0 goes.0 (s.stage k);
      attended = λ k v is. holder_there k v (held_afterwards kept gone v (s.stage k) apart (free k) is).0;
    })

    still_there : (m v : ℕ) → is_held_by v (reassign kept gone (s.stage m)) ≡ true → IsThere (step s (Join kept gone)) v
    still_there m v is =
        let held = held_afterwards kept gone v (s.stage m) apart (free m) is in
        let was = holder_there m v held.0 in
        (was.0, put_cases (λ x. x.gone ≡ false) gone (record (s.worker gone) { gone = true }) s.worker v (λ here. absurd (held.1 here)) (λ other. was.1))
