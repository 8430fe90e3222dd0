-- Events that keep a state sound: a leaf is drawn, or a worker draws past the leaves; a worker comes. The first state.
use Rattle.std.proofs.Common.{◌≡◌, ◌≢◌, ℕ, zero, suc, ◌+◌, ◌-◌, ◌<◌, ◌≤◌, ◌⊎◌, true, false, not, List, [], length, Option, Some, None, slice_get, refl, sym, ap, subst, ◌∙◌, inl, inr, arith}
use Rattle.std.specs.Prelude.{◌==◌, nat_le}
use Rattle.std.proofs.lemmas.Bool.{false≢true, eqb-true, ne_eqb, lt-ltb, le-leb, lt-leb, cases_eq}
use Rattle.sched_core.specs.declared.parts.Stage.{Stage}
use Rattle.sched_core.specs.declared.parts.Stage.TheVariants.{Waiting, Owed, Taken, Done}
use Rattle.sched_core.specs.declared.parts.Worker.{Worker}
use Rattle.sched_core.specs.declared.event.Event.TheVariants.{Claim, Split}
use Rattle.sched_core.specs.Sums.{sum_below, one_if, put}
use Rattle.sched_core.specs.State.{State, callees_of, callee, leaves, is_waiting, is_begun, is_done, is_held_by, IsThere, new_worker, first}
use Rattle.sched_core.specs.Events.{May, step, draw_leaf}
use Rattle.sched_core.specs.Sound.{Sound, holders, passed_workers}
use Rattle.sched_core.proofs.SumLemmas.{sum_below-same, sum_below-changed, sum_below-one, sum_below-past}
use Rattle.sched_core.proofs.Puts.{put-here, put-other, put_cases, put_keeps}
use Rattle.sched_core.proofs.LeafNumbers.{within_some, past_none, leaf-callees, leaf_number}

-- the leaf whose turn it is waits
pub next_leaf-waits : (s : State) (m : ℕ) → Sound s → slice_get (leaves s.callees) s.leaf ≡ Some m → is_waiting (s.stage m) ≡ true
next_leaf-waits s m sound is = sound.drawn s.leaf m is ∙ le-leb s.leaf s.leaf (omega arith)

-- a waiting module is not begun or done, and no worker holds it
pub not_begun : (x : Stage) → is_waiting x ≡ true → is_begun x ≡ false
not_begun Waiting is = refl
not_begun (Owed w) is = absurd (false≢true is)
not_begun (Taken w) is = absurd (false≢true is)
not_begun (Done w) is = absurd (false≢true is)

pub not_done : (x : Stage) → is_waiting x ≡ true → is_done x ≡ false
not_done Waiting is = refl
not_done (Owed w) is = refl
not_done (Taken w) is = refl
not_done (Done w) is = absurd (false≢true is)

pub is_Waiting : (x : Stage) → is_waiting x ≡ true → x ≡ Waiting
is_Waiting Waiting is = refl
is_Waiting (Owed w) is = absurd (false≢true is)
is_Waiting (Taken w) is = absurd (false≢true is)
is_Waiting (Done w) is = absurd (false≢true is)

-- what a module that came to be owed to a worker that is there is: held by it
pub owed_there : (s : State) (w m v k : ℕ) → Sound s → IsThere s w → is_held_by v (put m (Owed w) s.stage k) ≡ true → IsThere s v
owed_there s w m v k sound there =
    put_cases (λ x. is_held_by v x ≡ true → IsThere s v) m (Owed w) s.stage k
    (λ here is. subst (λ n. IsThere s n) (sym (eqb-true v w is)) there)
    (λ other is. sound.there k v is)

-- a module that is owed to a worker that has come has one holder
pub owed_once : (s : State) (w m k : ℕ) → Sound s → w < s.workers
    → holders s.workers (put m (Owed w) s.stage k) ≡ one_if (not (is_waiting (put m (Owed w) s.stage k)))
owed_once s w m k sound come =
    put_cases (λ x. holders s.workers x ≡ one_if (not (is_waiting x))) m (Owed w) s.stage k
    (λ here. sum_below-one s.workers w come) (λ other. sound.one k)

-- one more draw makes no difference at any other number
nat_le-next : (a b : ℕ) → b ≢ a → nat_le a b ≡ nat_le (a + 1) b
nat_le-next a b apart = by_order (grind arith)
  where
    by_order : (a < b) ⊎ (b < a) → nat_le a b ≡ nat_le (a + 1) b
    by_order (inl below) = le-leb a b (omega arith) ∙ sym (le-leb (a + 1) b (omega arith))
    by_order (inr above) = lt-leb a b above ∙ sym (lt-leb (a + 1) b (omega arith))

claim_leaf-sound : (s : State) (w m : ℕ) → Sound s → IsThere s w → slice_get (leaves s.callees) s.leaf ≡ Some m → Sound (draw_leaf s w (Some m))
claim_leaf-sound s w m sound there is = record {
  pending_edges = sound.pending_edges;
  reported = λ c i edge is_reported. let old = sound.reported c i edge is_reported in (same_done (callee s.callees c i) ∙ old.0, old.1);
  unreported = λ c i edge not_reported. let old = sound.unreported c i edge not_reported in (old.0, λ full. same_done (callee s.callees c i) ∙ old.1 full);
  emptied = λ c i edge is_out. same_begun c ∙ sound.emptied c i edge is_out;
  done = λ k i edge is_over. sound.done k i edge (sym (same_done k) ∙ is_over);
  callers = λ k some. ap is_waiting (put-other m (Owed w) s.stage k (λ same. no_caller k same some)) ∙ sound.callers k some;
  drawn = λ j k here. go j k here (cases_eq j s.leaf);
  one = λ k. owed_once s w m k sound there.0;
  there = λ k v. owed_there s w m v k sound there;
  workers = sound.workers;
  few = sound.few;
  past = let number : s.leaf < length (leaves s.callees) = within_some (leaves s.callees) s.leaf m is in
      sound.past ∙ omega arith;
}
  where
    waits : is_waiting (s.stage m) ≡ true
    waits = next_leaf-waits s m sound is

    same_done : (k : ℕ) → is_done (put m (Owed w) s.stage k) ≡ is_done (s.stage k)
    same_done = put_keeps is_done m (Owed w) s.stage (sym (not_done (s.stage m) waits))

    same_begun : (k : ℕ) → is_begun (put m (Owed w) s.stage k) ≡ is_begun (s.stage k)
    same_begun = put_keeps is_begun m (Owed w) s.stage (sym (not_begun (s.stage m) waits))

    no_caller : (k : ℕ) → k ≡ m → 0 < length (callees_of s.callees k) → ⊥
    no_caller k same some =
        let none : callees_of s.callees k ≡ [] = ap (callees_of s.callees) same ∙ leaf-callees s.callees s.leaf m is in
        let count : length (callees_of s.callees k) ≡ 0 = ap length none in
        omega arith

    go : (j k : ℕ) → slice_get (leaves s.callees) j ≡ Some k → (j ≡ s.leaf) ⊎ (j ≢ s.leaf) → is_waiting (put m (Owed w) s.stage k) ≡ nat_le (s.leaf + 1) j
    go j k here (inl turn) =
        let same : Some k ≡ Some m = sym here ∙ ap (slice_get (leaves s.callees)) turn ∙ is in
        let at : k ≡ m = cc in
        ap (λ n. is_waiting (put m (Owed w) s.stage n)) at ∙ ap is_waiting (put-here m (Owed w) s.stage) ∙ sym (lt-leb (s.leaf + 1) j (omega arith))
    go j k here (inr later) =
        let apart : k ≢ m = λ same. later (leaf_number s.callees j s.leaf k here (is ∙ ap Some (sym same))) in
        ap is_waiting (put-other m (Owed w) s.stage k apart) ∙ sound.drawn j k here ∙ nat_le-next s.leaf j later

claim_none-sound : (s : State) (w : ℕ) → Sound s → IsThere s w → (s.worker w).passed ≡ false → slice_get (leaves s.callees) s.leaf ≡ None
    → Sound (draw_leaf s w None)
claim_none-sound s w sound there not_passed is = record {
  pending_edges = sound.pending_edges;
  reported = sound.reported;
  unreported = sound.unreported;
  emptied = sound.emptied;
  done = sound.done;
  callers = sound.callers;
  drawn = λ j k here.
      let number : j < length (leaves s.callees) = within_some (leaves s.callees) j k here in
      sound.drawn j k here ∙ lt-leb s.leaf j (omega (arith, drawn_all)) ∙ sym (lt-leb (s.leaf + 1) j (omega (arith, drawn_all)));
  one = sound.one;
  there = λ m v held. let was = sound.there m v held in (was.0, put_keeps (λ x. x.gone) w passing s.worker refl v ∙ was.1);
  workers = sound.workers;
  few = sound.few;
  past =
      let change : sum_below s.workers (λ v. one_if (put w passing s.worker v).passed) + one_if (s.worker w).passed ≡ passed_workers s + one_if (put w passing s.worker w).passed =
      sum_below-changed s.workers (λ v. one_if (s.worker v).passed) (λ v. one_if (put w passing s.worker v).passed) w there.0
      (λ v other. ap (λ x. one_if x.passed) (put-other w passing s.worker v other)) in
      let old : one_if (s.worker w).passed ≡ 0 = ap one_if not_passed in
      let new : one_if (put w passing s.worker w).passed ≡ 1 = ap (λ x. one_if x.passed) (put-here w passing s.worker) in
      let before : passed_workers s ≡ s.leaf - length (leaves s.callees) = sound.past in
      let all : length (leaves s.callees) ≤ s.leaf = drawn_all in
      omega arith;
}
  where
    passing : Worker
    passing = record (s.worker w) { passed = true }

    drawn_all : length (leaves s.callees) ≤ s.leaf
    drawn_all = past_none (leaves s.callees) s.leaf is

pub claim-sound : (s : State) (w : ℕ) → Sound s → May s (Claim w) → Sound (step s (Claim w))
claim-sound s w sound may = go (slice_get (leaves s.callees) s.leaf) refl
  where
    go : (drawn : Option ℕ) → slice_get (leaves s.callees) s.leaf ≡ drawn → Sound (draw_leaf s w drawn)
    go (Some m) is = claim_leaf-sound s w m sound may.0 is
    go None is = claim_none-sound s w sound may.0 may.1 is

-- no module is held by a worker that has not come
pub holders-more : (n : ℕ) (x : Stage) → holders n x ≡ one_if (not (is_waiting x)) → one_if (is_held_by n x) ≡ 0
holders-more n Waiting one = refl
holders-more n (Owed v) one = ap one_if (ne_eqb n v (λ same. absurd (let none : sum_below n (λ w. one_if (w == v)) ≡ 0 = sum_below-past n v (omega arith) in omega arith)))
holders-more n (Taken v) one = ap one_if (ne_eqb n v (λ same. absurd (let none : sum_below n (λ w. one_if (w == v)) ≡ 0 = sum_below-past n v (omega arith) in omega arith)))
holders-more n (Done v) one = ap one_if (ne_eqb n v (λ same. absurd (let none : sum_below n (λ w. one_if (w == v)) ≡ 0 = sum_below-past n v (omega arith) in omega arith)))

pub split-sound : (s : State) → Sound s → May s Split → Sound (step s Split)
split-sound s sound may = record {
  pending_edges = sound.pending_edges;
  reported = sound.reported;
  unreported = sound.unreported;
  emptied = sound.emptied;
  done = sound.done;
  callers = sound.callers;
  drawn = sound.drawn;
  one = λ m. let none : one_if (is_held_by s.workers (s.stage m)) ≡ 0 = holders-more s.workers (s.stage m) (sound.one m) in more m none;
  there = λ m v held. let was = sound.there m v held in
      (below v was.0, ap (λ x. x.gone) (put-other s.workers new_worker s.worker v (λ same. apart v was.0 same)) ∙ was.1);
  workers = ap suc_of sound.workers;
  few = let count : s.workers ≡ s.splits + 1 = sound.workers in let room : s.splits < 63 = may.1 in omega arith;
  past =
      let prefix : sum_below s.workers (λ v. one_if (put s.workers new_worker s.worker v).passed) ≡ passed_workers s =
      sum_below-same s.workers (λ v. one_if (put s.workers new_worker s.worker v).passed) (λ v. one_if (s.worker v).passed)
      (λ v below. ap (λ x. one_if x.passed) (put-other s.workers new_worker s.worker v (λ same. apart v below same))) in
      let end : one_if (put s.workers new_worker s.worker s.workers).passed ≡ 0 = ap (λ x. one_if x.passed) (put-here s.workers new_worker s.worker) in
      sum_below-last s.workers (λ v. one_if (put s.workers new_worker s.worker v).passed) end ∙ prefix ∙ sound.past;
}
  where
    suc_of : ℕ → ℕ
    suc_of n = n + 1

    apart : (v : ℕ) → v < s.workers → v ≡ s.workers → ⊥
    apart v below same = omega arith

    below : (v : ℕ) → v < s.workers → v < s.workers + 1
    below v come = omega arith

    sum_below-last : (n : ℕ) (f : ℕ → ℕ) → f n ≡ 0 → sum_below (n + 1) f ≡ sum_below n f
    sum_below-last n f none = ap (λ k. sum_below k f) (next n) ∙ (let e : sum_below n f + f n ≡ sum_below n f = omega arith in e)
      where
        next : (n : ℕ) → n + 1 ≡ suc n
        next n = omega arith

    more : (m : ℕ) → one_if (is_held_by s.workers (s.stage m)) ≡ 0 → holders (s.workers + 1) (s.stage m) ≡ one_if (not (is_waiting (s.stage m)))
    more m none = sum_below-last s.workers (λ w. one_if (is_held_by w (s.stage m))) none ∙ sound.one m

-- as many edges are not reported as there are
all_unreported : (n : ℕ) → sum_below n (λ i. 1) ≡ n
all_unreported zero = refl
all_unreported (suc n) = let prefix : sum_below n (λ i. 1) ≡ n = all_unreported n in omega arith

pub first-sound : (callees : List (List ℕ)) → Sound (first callees)
first-sound callees = record {
  pending_edges = λ c. sym (all_unreported (length (callees_of callees c)));
  reported = λ c i edge is. absurd (false≢true is);
  unreported = λ c i edge is. (refl, λ full. absurd (false≢true full));
  emptied = λ c i edge is. absurd (false≢true is);
  done = λ m i edge is. absurd (false≢true is);
  callers = λ m some. sym (lt-ltb 0 (length (callees_of callees m)) some);
  drawn = λ k m is. sym (le-leb 0 k (omega arith));
  one = λ m. refl;
  there = λ m w is. absurd (false≢true is);
  workers = refl;
  few = omega arith;
  past = let none : 0 - length (leaves callees) ≡ 0 = omega arith in sym none;
}
