-- A worker comes, and a worker goes: that keeps the rule.
use Rattle.std.proofs.Common.{◌≡◌, ◌≢◌, ℕ, zero, suc, ◌+◌, ◌<◌, ◌⊎◌, Bool, true, false, ◌&&◌, List, [], ◌∷◌, ◌++◌, length, set, Option, Some, None, sum_by, refl, sym, ap, subst, ◌∙◌, inl, inr, length-set, length-append, arith}
use Rattle.std.specs.Prelude.{◌==◌}
use Rattle.std.proofs.lemmas.Bool.{cases_eq, eq-eqb, ne_eqb, cond-false}
use Rattle.std.proofs.lemmas.List.Sums.{sum_by-append}
use mathlib.Core.Option.{some, some-injective, some-ne-none}
use lib.ListN.{get_elem?}
use Rattle.atomic_table.specs.Table.{Splits}
use Rattle.atomic_table.proofs.Lists.{set_here, set_else, at_longer}
use Rattle.sched_core.specs.declared.parts.Stage.{Stage}
use Rattle.sched_core.specs.declared.parts.Stage.TheVariants.{Waiting, Owed, Taken, Done}
use Rattle.sched_core.specs.declared.event.Event.TheVariants.{Split}
use Rattle.sched_core.specs.Sums.{one_if}
use Rattle.sched_core.specs.State.{State, callee, is_held_by, IsThere, new_worker}
use Rattle.sched_core.specs.Events.{step}
use Rattle.sched_core.proofs.Puts.{put-here, put-other}
use Rattle.sched_core.proofs.Draws.{split-sound}
use Rattle.shared_schedule.specs.declared.plan.Plan.{Plan}
use Rattle.shared_schedule.specs.declared.view.Hold.TheVariants.{Due, Begun, Over}
use Rattle.shared_schedule.specs.declared.view.TableSlot.{TableSlot}
use Rattle.shared_schedule.specs.declared.view.TableSlot.TheVariants.{Nowhere}
use Rattle.shared_schedule.specs.declared.view.View.{View}
use Rattle.shared_schedule.specs.Views.{hold_of, is_held, is_over, Tells, ToldBy, new_view}
use Rattle.shared_schedule.specs.Rule.{handles_edge, handles_body, Lies, home, out, BodyFits, EdgeFits, Rule}
use Rattle.shared_schedule.specs.Plays.{split_view}
use Rattle.shared_schedule.proofs.Lookups.{position-lt, sum-changed}
use Rattle.shared_schedule.proofs.Staying.{told_by, told_still, lies_still}
use Rattle.shared_schedule.proofs.Drawing.{nowhere-body, nowhere-edge, tells-now, there-now}

-- what stands at a position of a list with one more element stood there before, or is that element
at-end : {A : Type 0} (xs : List A) (x y : A) (k : ℕ) → get_elem? (xs ++ x ∷ []) k ≡ some y → ((k < length xs) × (get_elem? xs k ≡ some y)) ⊎ ((x ≡ y) × (k ≡ length xs))
at-end [] x y zero at = inr (some-injective x y at, refl)
at-end [] x y (suc k) at = absurd (some-ne-none y (sym at))
at-end (z ∷ zs) x y zero at = inl (omega arith, at)
at-end {A = A} (z ∷ zs) x y (suc k) at = further (at-end zs x y k at)
  where
    further : ((k < length zs) × (get_elem? zs k ≡ some y)) ⊎ ((x ≡ y) × (k ≡ length zs)) → ((suc k < length (z ∷ zs)) × (get_elem? zs k ≡ some y)) ⊎ ((x ≡ y) × (suc k ≡ length (z ∷ zs)))
    further (inl (below, is)) = inl (omega arith, is)
    further (inr (is, last)) = inr (is, ap suc last)

-- a slot lies where it lay, where a worker comes
lies_longer : {S P : Type 0} {fits : S → Type 0} {handles : ℕ → Bool} {position : TableSlot} {homes : List (mathlib.Core.Option.Option S)} {k : ℕ} {views : List (View P)} (x : View P)
    → Lies fits handles position homes k views → Lies fits handles position homes k (views ++ x ∷ [])
lies_longer x (home y at fit) = home y at fit
lies_longer {views = views} x (out at u v there is may) = out at u v (at_longer views (x ∷ []) u v there) is may

-- what no worker holds is nothing to it
none-held : (w : ℕ) (x : Stage) → (is_held_by w x ≡ true → ⊥) → hold_of w x ≡ None
none-held w Waiting no_one = refl
none-held w (Owed v) no_one = cond-false (w == v) (Some Due) None (ne_eqb w v (λ e. no_one (eq-eqb w v e)))
none-held w (Taken v) no_one = cond-false (w == v) (Some Begun) None (ne_eqb w v (λ e. no_one (eq-eqb w v e)))
none-held w (Done v) no_one = cond-false (w == v) (Some Over) None (ne_eqb w v (λ e. no_one (eq-eqb w v e)))

and-none : (b x : Bool) → x ≡ false → false ≡ (b && x)
and-none true x e = sym e
and-none false x e = refl

module _ {P B : Type 0} (first finished : P → ℕ → B → Type 0) (copied : P → ℕ → Option B → Type 0) where
  -- the first worker splits
  pub splits : (plan : Plan P) (v : View P) → v.plan ≡ Some plan → v.out ≡ Nowhere → v.splits < 63 → Splits (Rule first finished copied plan) 0 v (split_view v) (new_view v.plan)
  splits plan v mine idle room t (s, shows) at = (
    after,
    record {
      callees = shows.callees;
      lists = shows.lists;
      sound = split-sound s shows.sound (there, splits-room);
      unput = shows.unput;
      wide = shows.wide;
      leaf = shows.leaf;
      pending = shows.pending;
      come = length-append (set t.views 0 (split_view v)) (new_view v.plan ∷ []) ∙ ap (λ n. n + 1) (length-set t.views 0 (split_view v) ∙ shows.come);
      shares =
          let ends : sum_by (λ z. z.shares) (set t.views 0 (split_view v) ++ new_view v.plan ∷ []) ≡ sum_by (λ z. z.shares) (set t.views 0 (split_view v)) + sum_by (λ (z : View P). z.shares) (new_view v.plan ∷ []) =
          sum_by-append (λ (z : View P). z.shares) (set t.views 0 (split_view v)) (new_view v.plan ∷ []) in
          let last : sum_by (λ (z : View P). z.shares) (new_view v.plan ∷ []) ≡ 1 = refl in
          let sum : sum_by (λ z. z.shares) (set t.views 0 (split_view v)) + v.shares ≡ sum_by (λ z. z.shares) t.views + v.shares = sum-changed (λ (z : View P). z.shares) t.views 0 v (split_view v) at in
          let old : sum_by (λ z. z.shares) t.views ≡ s.workers = shows.shares in
          omega arith;
      told = λ u x here. by_position u x (at-end (set t.views 0 (split_view v)) (new_view v.plan) x u here);
      homes = shows.homes;
      bodies = λ m within. lies_longer (new_view v.plan) (lies_still (BodyFits first finished copied plan.pieces m (s.stage m)) (handles_body s m) t.homes 0 v (split_view v)
          (shows.bodies m within) at (nowhere-body v m idle) (λ y fit. fit) refl (λ u ne may. may));
      edges = λ c i edge. lies_longer (new_view v.plan) (lies_still (EdgeFits first finished copied plan.pieces (callee s.callees c i) (s.edge c i).fill) (handles_edge s c i) t.homes 0 v
          (split_view v) (shows.edges c i edge) at (nowhere-edge v c i idle) (λ y fit. fit) refl (λ u ne may. may));
    },
  )
    where
      after : State
      after = step s Split

      tells : Tells s 0 v
      tells = tells-now first finished copied plan t s 0 v shows mine at

      there : IsThere s 0
      there = there-now first finished copied plan t s 0 v shows mine at

      splits-room : s.splits < 63
      splits-room = omega (arith, tells.splits refl)

      by_position : (u : ℕ) (x : View P) → ((u < length (set t.views 0 (split_view v))) × (get_elem? (set t.views 0 (split_view v)) u ≡ some x))
          ⊎ ((new_view v.plan ≡ x) × (u ≡ length (set t.views 0 (split_view v)))) → ToldBy plan (step s Split) u x x.plan
      by_position u x (inl (below, here)) = by_worker (cases_eq u 0)
        where
          apart : u ≢ s.workers
          apart = λ same. omega (arith, length-set t.views 0 (split_view v), shows.come)

          by_worker : (u ≡ 0) ⊎ (u ≢ 0) → ToldBy plan (step s Split) u x x.plan
          by_worker (inl e) =
              let is : split_view v ≡ x = some-injective (split_view v) x (sym (set_here t.views 0 (split_view v) (position-lt t.views 0 v at)) ∙ ap (get_elem? (set t.views 0 (split_view v))) (sym e) ∙ here) in
              subst (λ n. ToldBy plan (step s Split) n x x.plan) (sym e) (subst (λ z. ToldBy plan (step s Split) 0 z z.plan) is (told_by plan plan (step s Split) 0 (split_view v) v.plan mine refl (record {
                moves = tells.moves;
                once = tells.once;
                emptied = tells.emptied;
                told = tells.told;
                passed = tells.passed ∙ ap (λ y. y.passed) (sym (put-other s.workers new_worker s.worker 0 first-apart));
                here = ap (λ y. y.gone) (put-other s.workers new_worker s.worker 0 first-apart) ∙ tells.here;
                splits = λ first_one. ap (λ n. n + 1) (tells.splits first_one);
                shares = tells.shares;
              })))
            where
              first-apart : 0 ≢ s.workers
              first-apart = λ same. let some_one : 0 < s.workers = there.0 in omega arith
          by_worker (inr ne) = told_still plan s (step s Split) u x x.plan refl
              (record { holds = λ k. refl; emptied = λ c i edge. refl; told = λ c i edge. refl; worker = put-other s.workers new_worker s.worker u apart; splits = λ first_one. absurd (ne first_one) })
              (shows.told u x (sym (set_else t.views 0 u (split_view v) ne) ∙ here))
      by_position u x (inr (is, last)) =
          let number : u ≡ s.workers = last ∙ length-set t.views 0 (split_view v) ∙ shows.come in
          subst (λ n. ToldBy plan (step s Split) n x x.plan) (sym number) (subst (λ z. ToldBy plan (step s Split) s.workers z z.plan) is (told_by plan plan (step s Split) s.workers (new_view v.plan) v.plan mine refl (record {
            moves = λ m. sym (nothing m);
            once = λ m. ap (λ h. one_if (is_over h)) (sym (nothing m));
            emptied = λ c i edge. and-none _ _ (ap is_held (nothing c));
            told = λ c i edge. and-none _ _ (ap is_over (nothing (callee s.callees c i)));
            passed = ap (λ y. y.passed) (sym (put-here s.workers new_worker s.worker));
            here = ap (λ y. y.gone) (put-here s.workers new_worker s.worker);
            splits = λ first_one. let some_one : 0 < s.workers = there.0 in absurd (omega arith);
            shares = omega arith;
          })))
        where
          nothing : (m : ℕ) → hold_of s.workers (s.stage m) ≡ None
          nothing m = none-held s.workers (s.stage m) (λ held. let come : s.workers < s.workers = (shows.sound.there m s.workers held).0 in absurd (omega arith))
