-- Runs of events: what holds after each list of events that may come.
use Rattle.std.proofs.Common.{◌≡◌, ◌≢◌, ℕ, zero, suc, ◌+◌, ◌-◌, ◌<◌, ◌≤◌, ◌⊎◌, true, false, not, List, [], ◌∷◌, ◌++◌, length, get_or, Option, Some, None, slice_get, refl, sym, ap, subst, ◌∙◌, inl, inr, arith}
use Rattle.std.specs.Prelude.{◌==◌, nat_lt}
use Rattle.std.proofs.lemmas.Bool.{true≢false, eq-eqb, ne_eqb, lt-leb, cases_eq}
use Rattle.wiring.specs.Wiring.{In}
use Rattle.wiring.proofs.Settled.{by_needs}
use Rattle.sched_core.specs.declared.parts.Stage.{Stage}
use Rattle.sched_core.specs.declared.parts.Stage.TheVariants.{Waiting, Owed, Taken, Done}
use Rattle.sched_core.specs.declared.event.Event.{Event}
use Rattle.sched_core.specs.declared.event.Event.TheVariants.{Claim, Take, TakeEdge, PutDone, PutEdge, Report, Split, Join}
use Rattle.sched_core.specs.Sums.{one_if, put}
use Rattle.sched_core.specs.State.{State, callees_of, callee, IsEdge, leaves, is_waiting, is_done, is_busy_with, first}
use Rattle.sched_core.specs.Events.{May, step, draw_leaf, stages_after_report, reassign}
use Rattle.sched_core.specs.Sound.{Sound, unreported_edges}
use Rattle.sched_core.specs.Runs.{AreCallees, Allowed, after, completes, times_done, IsSettled}
use Rattle.sched_core.proofs.SumLemmas.{sum_below-none, one_if-le}
use Rattle.sched_core.proofs.Puts.{put-here, put-other, put_keeps}
use Rattle.sched_core.proofs.LeafNumbers.{within_some, leaf_has_number, HasNumber}
use Rattle.sched_core.proofs.Moves.{is_done-reassign}
use Rattle.sched_core.proofs.Edges.{reported_unless_waiting}
use Rattle.sched_core.proofs.Draws.{next_leaf-waits, not_done, first-sound}
use Rattle.sched_core.proofs.Reports.{unreported-waits}
use Rattle.sched_core.proofs.Keeping.{step-sound}

pub after-sound : (s : State) (es : List Event) → Sound s → Allowed s es → Sound (after s es)
after-sound s [] sound allowed = sound
after-sound s (e ∷ es) sound allowed = after-sound (step s e) es (step-sound s e sound allowed.0) allowed.1

-- an event leaves the callees as they are
pub callees-step : (s : State) (e : Event) → (step s e).callees ≡ s.callees
callees-step s (Claim w) = of_draw (slice_get (leaves s.callees) s.leaf)
  where
    of_draw : (drawn : Option ℕ) → (draw_leaf s w drawn).callees ≡ s.callees
    of_draw (Some m) = refl
    of_draw None = refl
callees-step s (Take w m) = refl
callees-step s (TakeEdge w c i) = refl
callees-step s (PutDone w m) = refl
callees-step s (PutEdge w c i) = refl
callees-step s (Report w c i) = refl
callees-step s Split = refl
callees-step s (Join kept gone) = refl

pub callees-after : (s : State) (es : List Event) → (after s es).callees ≡ s.callees
callees-after s [] = refl
callees-after s (e ∷ es) = callees-after (step s e) es ∙ callees-step s e

-- the events of a list may come one part after the other
pub allowed-append : (s : State) (es others : List Event) → Allowed s (es ++ others) → Allowed s es × Allowed (after s es) others
allowed-append s [] others allowed = (tt, allowed)
allowed-append s (e ∷ es) others allowed =
    let rest = allowed-append (step s e) es others allowed.1 in
    ((allowed.0, rest.0), rest.1)

-- a list of events goes on from where another has led
pub after-append : (s : State) (es others : List Event) → after s (es ++ others) ≡ after (after s es) others
after-append s [] others = refl
after-append s (e ∷ es) others = after-append (step s e) es others

-- one more event that may come after a list of events
pub allowed-then : (s : State) (es : List Event) (e : Event) → Allowed s es → May (after s es) e → Allowed s (es ++ e ∷ [])
allowed-then s [] e allowed may = (may, tt)
allowed-then s (first_event ∷ es) e allowed may = (allowed.0, allowed-then (step s first_event) es e allowed.1 may)

-- where no module comes to be done
none_done : (s : State) (stage : ℕ → Stage) (m : ℕ) → is_done (stage m) ≡ is_done (s.stage m) → one_if (is_done (stage m)) ≡ 0 + one_if (is_done (s.stage m))
none_done s stage m same = let e : one_if (is_done (stage m)) ≡ one_if (is_done (s.stage m)) = ap one_if same in omega arith

-- a module is done after an event where it was or comes to be
pub done-step : (s : State) (e : Event) (m : ℕ) → Sound s → May s e → one_if (is_done ((step s e).stage m)) ≡ completes m e + one_if (is_done (s.stage m))
done-step s (Claim w) m sound may = go (slice_get (leaves s.callees) s.leaf) refl
  where
    go : (drawn : Option ℕ) → slice_get (leaves s.callees) s.leaf ≡ drawn → one_if (is_done ((draw_leaf s w drawn).stage m)) ≡ 0 + one_if (is_done (s.stage m))
    go (Some k) is = none_done s (put k (Owed w) s.stage) m (put_keeps is_done k (Owed w) s.stage (sym (not_done (s.stage k) (next_leaf-waits s k sound is))) m)
    go None is = none_done s s.stage m refl
done-step s (Take w k) m sound may = none_done s (put k (Taken w) s.stage) m (put_keeps is_done k (Taken w) s.stage (sym (ap is_done may)) m)
done-step s (TakeEdge w c i) m sound may = none_done s s.stage m refl
done-step s (PutDone w k) m sound may = go (cases_eq m k)
  where
    go : (m ≡ k) ⊎ (m ≢ k) → one_if (is_done (put k (Done w) s.stage m)) ≡ one_if (m == k) + one_if (is_done (s.stage m))
    go (inl same) =
        let new : one_if (is_done (put k (Done w) s.stage m)) ≡ 1 = ap (λ n. one_if (is_done (put k (Done w) s.stage n))) same ∙ ap (λ x. one_if (is_done x)) (put-here k (Done w) s.stage) in
        let old : one_if (is_done (s.stage m)) ≡ 0 = ap (λ n. one_if (is_done (s.stage n))) same ∙ ap (λ x. one_if (is_done x)) may.0 in
        let one : one_if (m == k) ≡ 1 = ap one_if (eq-eqb m k same) in
        omega arith
    go (inr other) =
        let new : one_if (is_done (put k (Done w) s.stage m)) ≡ one_if (is_done (s.stage m)) = ap (λ x. one_if (is_done x)) (put-other k (Done w) s.stage m other) in
        let none : one_if (m == k) ≡ 0 = ap one_if (ne_eqb m k other) in
        omega arith
done-step s (PutEdge w c i) m sound may = none_done s s.stage m refl
done-step s (Report w c i) m sound may = go (s.pending_edges c - 1)
  where
    waits : is_waiting (s.stage c) ≡ true
    waits = unreported-waits s c i sound may.0 may.3

    go : (left : ℕ) → one_if (is_done (stages_after_report left w c s.stage m)) ≡ 0 + one_if (is_done (s.stage m))
    go zero = none_done s (put c (Owed w) s.stage) m (put_keeps is_done c (Owed w) s.stage (sym (not_done (s.stage c) waits)) m)
    go (suc left) = none_done s s.stage m refl
done-step s Split m sound may = none_done s s.stage m refl
done-step s (Join kept gone) m sound may = none_done s (λ k. reassign kept gone (s.stage k)) m (is_done-reassign kept gone (s.stage m))

-- a module is done after a list of events where it was, or as often as it came to be
pub done-after : (s : State) (es : List Event) (m : ℕ) → Sound s → Allowed s es → one_if (is_done ((after s es).stage m)) ≡ times_done m es + one_if (is_done (s.stage m))
done-after s [] m sound allowed = none_done s s.stage m refl
done-after s (e ∷ es) m sound allowed =
    let one : one_if (is_done ((step s e).stage m)) ≡ completes m e + one_if (is_done (s.stage m)) = done-step s e m sound allowed.0 in
    let rest : one_if (is_done ((after (step s e) es).stage m)) ≡ times_done m es + one_if (is_done ((step s e).stage m)) =
    done-after (step s e) es m (step-sound s e sound allowed.0) allowed.1 in
    omega arith

-- from the first state
pub told : (callees : List (List ℕ)) (es : List Event) (m : ℕ) → Allowed (first callees) es → one_if (is_done ((after (first callees) es).stage m)) ≡ times_done m es
told callees es m allowed =
    let all : one_if (is_done ((after (first callees) es).stage m)) ≡ times_done m es + 0 = done-after (first callees) es m (first-sound callees) allowed in
    omega arith

pub once : (callees : List (List ℕ)) (es : List Event) (m : ℕ) → Allowed (first callees) es → times_done m es ≤ 1
once callees es m allowed =
    let bound : one_if (is_done ((after (first callees) es).stage m)) ≤ 1 = one_if-le (is_done ((after (first callees) es).stage m)) in
    let all = told callees es m allowed in
    omega arith

-- a module that is owed has its callees done
pub owed_callees-done : (s : State) (m i : ℕ) → Sound s → is_waiting (s.stage m) ≡ false → IsEdge s.callees m i → is_done (s.stage (callee s.callees m i)) ≡ true
owed_callees-done s m i sound not_waiting edge = (sound.reported m i edge (reported_unless_waiting s m i sound not_waiting edge)).0

pub order : (callees : List (List ℕ)) (before rest : List Event) (w m i : ℕ) → Allowed (first callees) (before ++ Take w m ∷ rest)
    → IsEdge callees m i → times_done (callee callees m i) before ≡ 1
order callees before rest w m i allowed edge =
    let parts = allowed-append (first callees) before (Take w m ∷ rest) allowed in
    let sound = after-sound (first callees) before (first-sound callees) parts.0 in
    let same : (after (first callees) before).callees ≡ callees = callees-after (first callees) before in
    let P : List (List ℕ) → Type 0 = λ lists. IsEdge lists m i → is_done ((after (first callees) before).stage (callee lists m i)) ≡ true in
    let is : is_done ((after (first callees) before).stage (callee callees m i)) ≡ true =
    subst P same (owed_callees-done (after (first callees) before) m i sound (ap is_waiting parts.1.0)) edge in
    sym (told callees before (callee callees m i) parts.0) ∙ ap one_if is

-- the numbers below n
numbers : ℕ → List ℕ
numbers zero = []
numbers (suc n) = n ∷ numbers n

in_numbers : (n k : ℕ) → k < n → In k (numbers n)
unfolding numbers
in_numbers zero k below = absurd (omega arith)
in_numbers (suc n) k below = go (cases_eq k n) (λ lower. in_numbers n k lower)
  where
    go : (k ≡ n) ⊎ (k ≢ n) → (k < n → In k (numbers n)) → (k ≡ n) ⊎ In k (numbers n)
    go (inl last) rest = inl last
    go (inr earlier) rest = inr (rest (omega arith))

pub in_entry : (xs : List ℕ) (i : ℕ) → i < length xs → In (get_or xs i 0) xs
in_entry [] i within = absurd (omega arith)
in_entry (x ∷ xs) zero within = inl refl
in_entry (x ∷ xs) (suc i) within = inr (in_entry xs i (omega arith))

-- only modules have callees
pub has_callees : (callees : List (List ℕ)) (m k : ℕ) → In k (callees_of callees m) → m < length callees
has_callees [] m k is = absurd is
has_callees (row ∷ rest) zero k is = omega arith
has_callees (row ∷ rest) (suc m) k is = let below : m < length rest = has_callees rest m k is in omega arith

-- where no worker is busy with a module, it waits or is done
waits_or_done : (x : Stage) → ((w : ℕ) → is_busy_with w x ≡ false) → is_waiting x ≡ false → is_done x ≡ true
waits_or_done Waiting free not_waiting = absurd (true≢false not_waiting)
waits_or_done (Owed v) free not_waiting = absurd (true≢false (sym (eq-eqb v v refl) ∙ free v))
waits_or_done (Taken v) free not_waiting = absurd (true≢false (sym (eq-eqb v v refl) ∙ free v))
waits_or_done (Done v) free not_waiting = refl

-- every module is done where the leaves are drawn and all is settled
pub complete : (s : State) → Sound s → AreCallees s.callees → length (leaves s.callees) ≤ s.leaf → IsSettled s
    → (m : ℕ) → m < length s.callees → is_done (s.stage m) ≡ true
complete s sound are drawn settled =
    by_needs (callees_of s.callees) (λ m. m < length s.callees → is_done (s.stage m) ≡ true) one (numbers (length s.callees))
    (λ a b is. in_numbers (length s.callees) a (has_callees s.callees a b is)) are.acyclic
  where
    over : (m : ℕ) → is_waiting (s.stage m) ≡ false → is_done (s.stage m) ≡ true
    over m = waits_or_done (s.stage m) (λ w. settled.free w m)

    leaf_over : (m : ℕ) → m < length s.callees → callees_of s.callees m ≡ [] → is_waiting (s.stage m) ≡ false
    leaf_over m within none =
        let found : HasNumber 0 m s.callees = leaf_has_number s.callees m within none in
        let below : found.number < length (leaves s.callees) = within_some (leaves s.callees) found.number m found.is in
        sound.drawn found.number m found.is ∙ lt-leb s.leaf found.number (omega arith)

    all_reported : (m : ℕ) → ((k : ℕ) → In k (callees_of s.callees m) → k < length s.callees → is_done (s.stage k) ≡ true) → (i : ℕ) → IsEdge s.callees m i
        → (s.edge m i).reported ≡ true
    all_reported m before i edge =
        let member : In (callee s.callees m i) (callees_of s.callees m) = in_entry (callees_of s.callees m) i edge in
        settled.reported m i edge (before (callee s.callees m i) member (are.within m (callee s.callees m i) member))

    caller_over : (m : ℕ) → ((k : ℕ) → In k (callees_of s.callees m) → k < length s.callees → is_done (s.stage k) ≡ true) → 0 < length (callees_of s.callees m)
        → is_waiting (s.stage m) ≡ false
    caller_over m before some =
        let none : unreported_edges s m ≡ 0 =
        sum_below-none (length (callees_of s.callees m)) (λ i. one_if (not (s.edge m i).reported)) (λ i edge. ap (λ b. one_if (not b)) (all_reported m before i edge)) in
        sound.callers m some ∙ ap (nat_lt 0) (sound.pending_edges m ∙ none)

    by_callees : (m : ℕ) → ((k : ℕ) → In k (callees_of s.callees m) → k < length s.callees → is_done (s.stage k) ≡ true) → m < length s.callees
        → (xs : List ℕ) → callees_of s.callees m ≡ xs → is_waiting (s.stage m) ≡ false
    by_callees m before within [] is = leaf_over m within is
    by_callees m before within (x ∷ xs) is = caller_over m before (let count : length (callees_of s.callees m) ≡ suc (length xs) = ap length is in omega arith)

    one : (m : ℕ) → ((k : ℕ) → In k (callees_of s.callees m) → k < length s.callees → is_done (s.stage k) ≡ true) → m < length s.callees → is_done (s.stage m) ≡ true
    one m before within = over m (by_callees m before within (callees_of s.callees m) refl)

pub complete-after : (callees : List (List ℕ)) (es : List Event) (m : ℕ) → AreCallees callees → Allowed (first callees) es
    → length (leaves callees) ≤ (after (first callees) es).leaf → IsSettled (after (first callees) es) → m < length callees → times_done m es ≡ 1
complete-after callees es m are allowed drawn settled within =
    let s : State = after (first callees) es in
    let same : s.callees ≡ callees = callees-after (first callees) es in
    let P : List (List ℕ) → Type 0 = λ lists. AreCallees lists → length (leaves lists) ≤ s.leaf → m < length lists → is_done (s.stage m) ≡ true in
    let is : is_done (s.stage m) ≡ true =
    subst P same (λ good all in_range. complete s (after-sound (first callees) es (first-sound callees) allowed) good all settled m in_range) are drawn within in
    sym (told callees es m allowed) ∙ ap one_if is
