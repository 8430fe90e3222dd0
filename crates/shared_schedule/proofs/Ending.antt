-- At the end: where one worker has gathered all others, has finished and passed the leaves, every module is done.
use Rattle.std.proofs.Common.{◌≡◌, ◌≢◌, ℕ, zero, suc, ◌+◌, ◌-◌, ◌<◌, ◌≤◌, ◌⊎◌, Bool, true, false, ◌&&◌, List, [], ◌∷◌, length, Option, Some, None, sum_by, refl, sym, ap, subst, ◌∙◌, inl, inr, arith}
use Rattle.std.proofs.lemmas.Bool.{true≢false, false≢true, cases_eq, false_from_ne_true, eq-eqb}
use Rattle.std.proofs.lemmas.List.Sums.{sum_by-cons}
use mathlib.Core.Option.{some, some-injective, some-ne-none}
use lib.ListN.{get_elem?}
use Rattle.atomic_table.specs.Table.{Final, Seen}
use Rattle.sched_core.specs.declared.parts.Stage.{Stage}
use Rattle.sched_core.specs.declared.parts.Stage.TheVariants.{Waiting, Owed, Taken, Done}
use Rattle.sched_core.specs.Sums.{one_if}
use Rattle.sched_core.specs.State.{callee, IsEdge, leaves, is_done, is_held_by, is_busy_with, is_done_by, IsThere}
use Rattle.sched_core.specs.Sound.{passed_workers}
use Rattle.sched_core.proofs.SumLemmas.{le-sum_below}
use Rattle.sched_core.proofs.RunLemmas.{complete}
use Rattle.shared_schedule.specs.declared.plan.Plan.{Plan}
use Rattle.shared_schedule.specs.declared.slot.Slot.{Slot}
use Rattle.shared_schedule.specs.declared.slot.Slot.TheVariants.{Made}
use Rattle.shared_schedule.specs.declared.view.TableSlot.TheVariants.{Nowhere, Body}
use Rattle.shared_schedule.specs.declared.view.View.{View}
use Rattle.shared_schedule.specs.Views.{callees_in, last_move, hold_of, is_over, done_times, Tells, ToldBy}
use Rattle.shared_schedule.specs.Rule.{handles_body, Lies, home, out, BodyFits, Rule}
use Rattle.shared_schedule.specs.Seats.{IsFinished}
use Rattle.shared_schedule.proofs.Drawing.{nowhere-body, tells-now, there-now}
use Rattle.shared_schedule.proofs.Joining.{IsRest, free-of, done-over}

module _ {A : Type 0} (f : A → ℕ) where
  -- an element counts in the sum
  position-le : (xs : List A) (k : ℕ) (x : A) → get_elem? xs k ≡ some x → f x ≤ sum_by f xs
  position-le [] k x at = absurd (some-ne-none x (sym at))
  position-le (y ∷ ys) zero x at = let same : f y ≡ f x = ap f (some-injective y x at) in omega (arith, sum_by-cons f y ys)
  position-le (y ∷ ys) (suc k) x at = let rest : f x ≤ sum_by f ys = position-le ys k x at in omega (arith, sum_by-cons f y ys)

  -- where the first element counts for all, the others count for nothing
  pub first-alone : (xs : List A) (v : A) (k : ℕ) (x : A) → get_elem? xs 0 ≡ some v → sum_by f xs ≡ f v → get_elem? xs k ≡ some x → k ≢ 0 → f x ≡ 0
  first-alone [] v k x first sum at ne = absurd (some-ne-none v (sym first))
  first-alone (y ∷ ys) v zero x first sum at ne = absurd (ne refl)
  first-alone (y ∷ ys) v (suc k) x first sum at ne =
      let same : f y ≡ f v = ap f (some-injective y v first) in
      let rest : f x ≤ sum_by f ys = position-le ys k x at in
      omega (arith, sum_by-cons f y ys)

-- a position within a list has something
at-position : {A : Type 0} (xs : List A) (k : ℕ) → k < length xs → (x : A) × (get_elem? xs k ≡ some x)
at-position [] k below = absurd (omega arith)
at-position (x ∷ xs) zero below = (x, refl)
at-position (x ∷ xs) (suc k) below = at-position xs k (omega arith)

-- a busy worker, or one that did a module, holds it
busy-held : (w : ℕ) (x : Stage) → is_busy_with w x ≡ true → is_held_by w x ≡ true
busy-held w Waiting is = is
busy-held w (Owed v) is = is
busy-held w (Taken v) is = is
busy-held w (Done v) is = absurd (false≢true is)

-- a done module is done by someone
doer : (x : Stage) → is_done x ≡ true → (w : ℕ) × (x ≡ Done w)
doer Waiting is = absurd (false≢true is)
doer (Owed v) is = absurd (false≢true is)
doer (Taken v) is = absurd (false≢true is)
doer (Done v) is = (v, refl)

first-true : (a b : Bool) → (a && b) ≡ true → a ≡ true
first-true true b is = refl
first-true false b is = absurd (false≢true is)

module _ {P B : Type 0} (first finished : P → ℕ → B → Type 0) (copied : P → ℕ → Option B → Type 0) where
  pub ends : (plan : Plan P) (v : View P) (words : List ℕ) (xs : List (Slot B)) → v.plan ≡ Some plan → v.out ≡ Nowhere → v.passed ≡ true → v.shares ≡ v.splits + 1 → IsFinished (callees_in plan) v
      → Final (Seen (Rule first finished copied plan) 0 v) words xs → (m : ℕ) → m < length (callees_in plan) → (b : B) × (get_elem? xs m ≡ some (Made b)) × finished plan.pieces m b × (done_times v.moves m ≡ 1)
  ends plan v words xs mine idle passed all ended (t, ((s, shows), at), same, long, values) m below =
      let made : (y : Slot B) × (get_elem? t.homes m ≡ some (some y)) × BodyFits first finished copied plan.pieces m (s.stage m) y = at-home (shows.bodies m within) in
      let who : (w : ℕ) × (s.stage m ≡ Done w) = doer (s.stage m) over in
      let is : (b : B) × (made.0 ≡ Made b) × finished plan.pieces m b = subst (λ x. BodyFits first finished copied plan.pieces m x made.0) who.1 made.2 in
      let mine_is : who.0 ≡ 0 = holder who.0 m (ap (is_held_by who.0) who.1 ∙ eq-eqb who.0 who.0 refl) in
      let once : done_times v.moves m ≡ 1 = tells.once m ∙ ap (λ x. one_if (is_over (hold_of 0 x))) (who.1 ∙ ap Done mine_is) in
      (is.0, values m made.0 made.1 ∙ ap some is.1, is.2, once)
    where
      within : m < length s.callees
      within = omega (arith, ap length shows.callees)

      tells : Tells s 0 v
      tells = tells-now first finished copied plan t s 0 v shows mine at

      only : sum_by (λ z. z.shares) t.views ≡ v.shares
      only = shows.shares ∙ shows.sound.workers ∙ ap (λ n. n + 1) (sym (tells.splits refl)) ∙ sym all

      -- another worker has gone, and has no slot
      spent : (u : ℕ) (x : View P) (o : Option (Plan P)) → x.shares ≡ 0 → ToldBy plan s u x o → ((s.worker u).gone ≡ true) × (x.out ≡ Nowhere)
      spent u x None zero_shares told = told
      spent u x (Some p) zero_shares told = let some_left : 1 ≤ x.shares = told.1.shares in absurd (omega arith)

      other : (u : ℕ) (x : View P) → u ≢ 0 → get_elem? t.views u ≡ some x → ((s.worker u).gone ≡ true) × (x.out ≡ Nowhere)
      other u x ne there = spent u x x.plan (first-alone (λ (z : View P). z.shares) t.views v u x at only there ne) (shows.told u x there)

      holder : (u k : ℕ) → is_held_by u (s.stage k) ≡ true → u ≡ 0
      holder u k held = by_worker (cases_eq u 0)
        where
          here : IsThere s u
          here = shows.sound.there k u held

          by_worker : (u ≡ 0) ⊎ (u ≢ 0) → u ≡ 0
          by_worker (inl e) = e
          by_worker (inr ne) = let x = at-position t.views u (let come : u < s.workers = here.0 in omega (arith, shows.come)) in absurd (true≢false (sym (other u x.0 ne x.1).0 ∙ here.1))

      rest : (k : ℕ) → IsRest 0 (s.stage k)
      rest k h is = ended.over k h (tells.moves k ∙ is)

      free : (u k : ℕ) → is_busy_with u (s.stage k) ≡ false
      free u k = false_from_ne_true (is_busy_with u (s.stage k)) (λ busy. true≢false (sym (ap (λ n. is_busy_with n (s.stage k)) (sym (holder u k (busy-held u (s.stage k) busy))) ∙ busy) ∙ free-of 0 (s.stage k) (rest k)))

      reported : (c i : ℕ) → IsEdge s.callees c i → is_done (s.stage (callee s.callees c i)) ≡ true → (s.edge c i).reported ≡ true
      reported c i edge is =
          let who : (w : ℕ) × (s.stage (callee s.callees c i) ≡ Done w) = doer (s.stage (callee s.callees c i)) is in
          let first_one : who.0 ≡ 0 = holder who.0 (callee s.callees c i) (ap (is_held_by who.0) who.1 ∙ eq-eqb who.0 who.0 refl) in
          let done : is_done_by 0 (s.stage (callee s.callees c i)) ≡ true = ap (is_done_by 0) who.1 ∙ eq-eqb 0 who.0 (sym first_one) in
          let over : is_over (last_move v.moves (callee s.callees c i)) ≡ true = ap is_over (tells.moves (callee s.callees c i) ∙ done-over 0 (s.stage (callee s.callees c i)) done) in
          first-true (s.edge c i).reported (is_over (hold_of 0 (s.stage (callee s.callees c i))))
          (sym (tells.told c i edge) ∙ ended.told c i (subst (λ cs. IsEdge cs c i) shows.callees edge) (subst (λ cs. is_over (last_move v.moves (callee cs c i)) ≡ true) shows.callees over))

      drawn : length (leaves s.callees) ≤ s.leaf
      drawn =
          let past : passed_workers s ≡ s.leaf - length (leaves s.callees) = shows.sound.past in
          let counted : one_if (s.worker 0).passed ≤ passed_workers s = le-sum_below s.workers (λ w. one_if (s.worker w).passed) 0 (there-now first finished copied plan t s 0 v shows mine at).0 in
          let one : one_if (s.worker 0).passed ≡ 1 = ap one_if (sym tells.passed ∙ passed) in
          omega arith

      over : is_done (s.stage m) ≡ true
      over = complete s shows.sound shows.lists drawn (record { free = λ u k. free u k; reported = reported }) m within

      at-home : Lies (BodyFits first finished copied plan.pieces m (s.stage m)) (handles_body s m) (Body m) t.homes m t.views → (y : Slot B) × (get_elem? t.homes m ≡ some (some y))
          × BodyFits first finished copied plan.pieces m (s.stage m) y
      at-home (home y here fit) = (y, here, fit)
      at-home (out here u x there is may) = by_worker (cases_eq u 0)
        where
          by_worker : (u ≡ 0) ⊎ (u ≢ 0) → (y : Slot B) × (get_elem? t.homes m ≡ some (some y)) × BodyFits first finished copied plan.pieces m (s.stage m) y
          by_worker (inl e) = absurd (nowhere-body v m idle (ap (λ z. z.out) (some-injective v x (sym at ∙ ap (get_elem? t.views) (sym e) ∙ there)) ∙ is))
          by_worker (inr ne) = absurd (nowhere-body x m (other u x ne there).1 is)
