-- A worker goes, and another keeps what it did: that keeps the rule.
use Rattle.std.proofs.Common.{◌≡◌, ◌≢◌, ℕ, ◌+◌, ◌⊎◌, Bool, true, false, cond, ◌&&◌, ◌||◌, List, [], ◌∷◌, ◌++◌, set, Option, Some, None, sum_by, refl, sym, ap, ap₂, subst, ◌∙◌, inl, inr, length-set, arith}
use Rattle.std.specs.Prelude.{◌==◌}
use Rattle.std.proofs.lemmas.Bool.{false≢true, cases_eq, eqb-true, eq-eqb, ne_eqb, cond-true, cond-false, cond_both}
use mathlib.Core.Option.{some, some-injective}
use lib.ListN.{get_elem?}
use Rattle.atomic_table.specs.Table.{Joins}
use Rattle.atomic_table.proofs.Lists.{set_here, set_else}
use Rattle.sched_core.specs.declared.parts.Stage.{Stage}
use Rattle.sched_core.specs.declared.parts.Stage.TheVariants.{Waiting, Owed, Taken, Done}
use Rattle.sched_core.specs.declared.event.Event.TheVariants.{Join}
use Rattle.sched_core.specs.Sums.{one_if}
use Rattle.sched_core.specs.State.{State, callee, IsEdge, is_emptied, is_busy_with, is_done_by, IsFree, HasReported}
use Rattle.sched_core.specs.Events.{step, reassign}
use Rattle.sched_core.proofs.Puts.{put-here, put-other}
use Rattle.sched_core.proofs.Moves.{join-sound}
use Rattle.shared_schedule.specs.declared.plan.Plan.{Plan}
use Rattle.shared_schedule.specs.declared.slot.Slot.{Slot}
use Rattle.shared_schedule.specs.declared.view.Hold.{Hold}
use Rattle.shared_schedule.specs.declared.view.Hold.TheVariants.{Due, Begun, Over}
use Rattle.shared_schedule.specs.declared.view.TableSlot.TheVariants.{Nowhere}
use Rattle.shared_schedule.specs.declared.view.View.{View}
use Rattle.shared_schedule.specs.Views.{callees_in, last_move, hold_of, is_held, is_over, done_times, has_edge, Tells, ToldBy, spent_view, both_views}
use Rattle.shared_schedule.specs.Rule.{handles_edge, handles_body, BodyFits, EdgeFits, Rule}
use Rattle.shared_schedule.specs.Seats.{IsFinished}
use Rattle.shared_schedule.proofs.Lookups.{position-lt, sum-changed}
use Rattle.shared_schedule.proofs.Staying.{told_by, told_still, lies_still}
use Rattle.shared_schedule.proofs.Stages.{done-other, done-own}
use Rattle.shared_schedule.proofs.Drawing.{nowhere-body, nowhere-edge, tells-now, there-now}

-- the first of two that there is
abbrev first_of : Option Hold → Option Hold → Option Hold
first_of None o = o
first_of (Some h) o = Some h

last_move-append : (xs ys : List (ℕ × Hold)) (m : ℕ) → last_move (xs ++ ys) m ≡ first_of (last_move xs m) (last_move ys m)
last_move-append [] ys m = refl
last_move-append (x ∷ xs) ys m = by_test (m == x.0) refl (last_move-append xs ys m)
  where
    by_test : (b : Bool) → (m == x.0) ≡ b → last_move (xs ++ ys) m ≡ first_of (last_move xs m) (last_move ys m)
        → cond (m == x.0) (Some x.1) (last_move (xs ++ ys) m) ≡ first_of (cond (m == x.0) (Some x.1) (last_move xs m)) (last_move ys m)
    by_test true e rest = cond-true (m == x.0) (Some x.1) (last_move (xs ++ ys) m) e ∙ ap (λ o. first_of o (last_move ys m)) (sym (cond-true (m == x.0) (Some x.1) (last_move xs m) e))
    by_test false e rest = cond-false (m == x.0) (Some x.1) (last_move (xs ++ ys) m) e ∙ rest ∙ ap (λ o. first_of o (last_move ys m)) (sym (cond-false (m == x.0) (Some x.1) (last_move xs m) e))

pub done_times-append : (xs ys : List (ℕ × Hold)) (m : ℕ) → done_times (xs ++ ys) m ≡ done_times xs m + done_times ys m
done_times-append [] ys m = omega arith
done_times-append (x ∷ xs) ys m = let rest : done_times (xs ++ ys) m ≡ done_times xs m + done_times ys m = done_times-append xs ys m in omega (arith, rest)

-- two workers did not both do a module
over-once : (h : Hold) (a b : Bool) → (a ≡ true → b ≡ true → ⊥)
    → one_if (is_over (cond a (Some h) None)) + one_if (is_over (cond b (Some h) None)) ≡ one_if (is_over (cond a (Some h) None) || is_over (cond b (Some h) None))
over-once h true true apart = absurd (apart refl refl)
over-once Due true false apart = refl
over-once Begun true false apart = refl
over-once Over true false apart = refl
over-once h false b apart = omega arith

over-apart : (kept gone : ℕ) → kept ≢ gone → (x : Stage)
    → one_if (is_over (hold_of kept x)) + one_if (is_over (hold_of gone x)) ≡ one_if (is_over (hold_of kept x) || is_over (hold_of gone x))
over-apart kept gone apart Waiting = refl
over-apart kept gone apart (Owed v) = over-once Due (kept == v) (gone == v) (λ one two. apart (eqb-true kept v one ∙ sym (eqb-true gone v two)))
over-apart kept gone apart (Taken v) = over-once Begun (kept == v) (gone == v) (λ one two. apart (eqb-true kept v one ∙ sym (eqb-true gone v two)))
over-apart kept gone apart (Done v) = over-once Over (kept == v) (gone == v) (λ one two. apart (eqb-true kept v one ∙ sym (eqb-true gone v two)))

or-assoc : (x y z : Bool) → (x || (y || z)) ≡ ((x || y) || z)
or-assoc true y z = refl
or-assoc false y z = refl

has_edge-append : (xs ys : List (ℕ × ℕ)) (c i : ℕ) → has_edge (xs ++ ys) c i ≡ (has_edge xs c i || has_edge ys c i)
has_edge-append [] ys c i = refl
has_edge-append (x ∷ xs) ys c i = ap (λ b. ((c == x.0) && (i == x.1)) || b) (has_edge-append xs ys c i) ∙ or-assoc ((c == x.0) && (i == x.1)) (has_edge xs c i) (has_edge ys c i)

-- what a finished worker has to do with a module is nothing, or it did it
abbrev pub IsRest : ℕ → Stage → Type 0
IsRest w x = (h : Hold) → hold_of w x ≡ Some h → h ≡ Over

pub free-of : (w : ℕ) (x : Stage) → IsRest w x → is_busy_with w x ≡ false
free-of w Waiting over = refl
free-of w (Owed v) over = by_test (w == v) refl
  where
    by_test : (b : Bool) → (w == v) ≡ b → (w == v) ≡ false
    by_test true e = let is : Due ≡ Over = over Due (cond-true (w == v) (Some Due) None e) in absurd (cc)
    by_test false e = e
free-of w (Taken v) over = by_test (w == v) refl
  where
    by_test : (b : Bool) → (w == v) ≡ b → (w == v) ≡ false
    by_test true e = let is : Begun ≡ Over = over Begun (cond-true (w == v) (Some Begun) None e) in absurd (cc)
    by_test false e = e
free-of w (Done v) over = refl

-- what a worker did is over for it
pub done-over : (w : ℕ) (x : Stage) → is_done_by w x ≡ true → hold_of w x ≡ Some Over
done-over w Waiting is = absurd (false≢true is)
done-over w (Owed v) is = absurd (false≢true is)
done-over w (Taken v) is = absurd (false≢true is)
done-over w (Done v) is = cond-true (w == v) (Some Over) None is

-- what a stage is to the one that keeps, after the other has gone: what it was, or over where the other did it
data Kept (kept gone : ℕ) (x : Stage) : Type 0 where
  stays : hold_of gone x ≡ None → hold_of kept (reassign kept gone x) ≡ hold_of kept x → Kept kept gone x
  passes : hold_of gone x ≡ Some Over → hold_of kept x ≡ None → hold_of kept (reassign kept gone x) ≡ Some Over → Kept kept gone x

keeps : (kept gone : ℕ) (x : Stage) → kept ≢ gone → IsRest gone x → Kept kept gone x
keeps kept gone Waiting apart over = stays refl refl
keeps kept gone (Owed v) apart over = stays (cond-false (gone == v) (Some Due) None (free-of gone (Owed v) over)) refl
keeps kept gone (Taken v) apart over = stays (cond-false (gone == v) (Some Begun) None (free-of gone (Taken v) over)) refl
keeps kept gone (Done v) apart over = by_doer (cases_eq v gone)
  where
    by_doer : (v ≡ gone) ⊎ (v ≢ gone) → Kept kept gone (Done v)
    by_doer (inl e) = passes
        (cond-true (gone == v) (Some Over) None (eq-eqb gone v (sym e)))
        (cond-false (kept == v) (Some Over) None (ne_eqb kept v (λ here. apart (here ∙ e))))
        (ap (λ k. hold_of kept (Done k)) (cond-true (v == gone) kept v (eq-eqb v gone e)) ∙ done-own kept)
    by_doer (inr ne) = stays
        (cond-false (gone == v) (Some Over) None (ne_eqb gone v (λ here. ne (sym here))))
        (ap (λ k. hold_of kept (Done k)) (cond-false (v == gone) kept v (ne_eqb v gone ne)))

kept-moves : (kept gone : ℕ) (x : Stage) → Kept kept gone x → first_of (hold_of kept x) (hold_of gone x) ≡ hold_of kept (reassign kept gone x)
kept-moves kept gone x (stays nothing is) = ap (first_of (hold_of kept x)) nothing ∙ first-none (hold_of kept x) ∙ sym is
  where
    first-none : (o : Option Hold) → first_of o None ≡ o
    first-none None = refl
    first-none (Some h) = refl
kept-moves kept gone x (passes over nothing is) = ap (λ o. first_of o (hold_of gone x)) nothing ∙ over ∙ sym is

or-none : (b : Bool) → (b || false) ≡ b
or-none true = refl
or-none false = refl

-- a test that fails where there is nothing, of both
kept-tests : (test : Option Hold → Bool) → test None ≡ false → (kept gone : ℕ) (x : Stage) → Kept kept gone x → (test (hold_of kept x) || test (hold_of gone x)) ≡ test (hold_of kept (reassign kept gone x))
kept-tests test fails kept gone x (stays nothing is) = ap (λ o. test (hold_of kept x) || o) (ap test nothing ∙ fails) ∙ or-none (test (hold_of kept x)) ∙ ap test (sym is)
kept-tests test fails kept gone x (passes over nothing is) = ap (λ b. b || test (hold_of gone x)) (ap test nothing ∙ fails) ∙ ap test (over ∙ sym is)

beside-both : (b x y : Bool) → ((b && x) || (b && y)) ≡ (b && (x || y))
beside-both true x y = refl
beside-both false x y = refl

-- what others have to do with a module stays
others-hold : (kept gone u : ℕ) (x : Stage) → u ≢ kept → u ≢ gone → hold_of u (reassign kept gone x) ≡ hold_of u x
others-hold kept gone u Waiting not_kept not_gone = refl
others-hold kept gone u (Owed v) not_kept not_gone = refl
others-hold kept gone u (Taken v) not_kept not_gone = refl
others-hold kept gone u (Done v) not_kept not_gone =
    cond_both (v == gone) kept v (λ k. hold_of u (Done k) ≡ hold_of u (Done v))
    (λ is. done-other u kept not_kept ∙ sym (done-other u v (λ here. not_gone (here ∙ eqb-true v gone is))))
    (λ is. refl)

or-left : (a b : Bool) → a ≡ true → (a || b) ≡ true
or-left true b is = refl
or-left false b is = absurd (false≢true is)

-- a worker that is not the one that goes may do with a module what it could
may-still : (test : Option Hold → Bool) → test None ≡ false → (kept gone u : ℕ) (x : Stage) → Kept kept gone x → u ≢ gone → test (hold_of u x) ≡ true → test (hold_of u (reassign kept gone x)) ≡ true
may-still test fails kept gone u x how not_gone is = by_worker (cases_eq u kept)
  where
    by_worker : (u ≡ kept) ⊎ (u ≢ kept) → test (hold_of u (reassign kept gone x)) ≡ true
    by_worker (inl e) = subst (λ n. test (hold_of n (reassign kept gone x)) ≡ true) (sym e)
        (sym (kept-tests test fails kept gone x how) ∙ or-left (test (hold_of kept x)) (test (hold_of gone x)) (ap (λ n. test (hold_of n x)) (sym e) ∙ is))
    by_worker (inr ne) = ap test (others-hold kept gone u x ne not_gone) ∙ is

module _ {P B : Type 0} (first finished : P → ℕ → B → Type 0) (copied : P → ℕ → Option B → Type 0) where
  -- what fits a slot fits it afterwards
  fits-still : (p : P) (m kept gone : ℕ) (x : Stage) (y : Slot B) → BodyFits first finished copied p m x y → BodyFits first finished copied p m (reassign kept gone x) y
  fits-still p m kept gone Waiting y fit = fit
  fits-still p m kept gone (Owed v) y fit = fit
  fits-still p m kept gone (Taken v) y fit = fit
  fits-still p m kept gone (Done v) y fit = fit

  -- a finished worker is joined into another
  pub joins : (plan : Plan P) (kept gone : ℕ) (v g : View P) → v.plan ≡ Some plan → v.out ≡ Nowhere → g.plan ≡ Some plan → g.out ≡ Nowhere → IsFinished (callees_in plan) g
      → Joins (Rule first finished copied plan) kept v gone g (both_views v g) spent_view
  joins plan kept gone v g mine idle theirs idle' ended t (s, shows) at ne at' = (
    after,
    record {
      callees = shows.callees;
      lists = shows.lists;
      sound = join-sound s kept gone shows.sound (apart, there-now first finished copied plan t s kept v shows mine at, there-now first finished copied plan t s gone g shows theirs here, free, told-all);
      unput = shows.unput;
      wide = shows.wide;
      leaf = shows.leaf;
      pending = shows.pending;
      come = length-set (set t.views kept (both_views v g)) gone spent_view ∙ length-set t.views kept (both_views v g) ∙ shows.come;
      shares =
          let one : sum_by (λ z. z.shares) (set t.views kept (both_views v g)) + v.shares ≡ sum_by (λ z. z.shares) t.views + (v.shares + g.shares) = sum-changed (λ (z : View P). z.shares) t.views kept v (both_views v g) at in
          let two : sum_by (λ z. z.shares) (set (set t.views kept (both_views v g)) gone spent_view) + g.shares
          ≡ sum_by (λ z. z.shares) (set t.views kept (both_views v g)) + 0 = sum-changed (λ (z : View P). z.shares) (set t.views kept (both_views v g)) gone g spent_view at' in
          let old : sum_by (λ z. z.shares) t.views ≡ s.workers = shows.shares in
          omega arith;
      told = λ u x there. by_worker u x there (cases_eq u gone) (cases_eq u kept);
      homes = shows.homes;
      bodies = λ m within. lies_still (BodyFits first finished copied plan.pieces m (reassign kept gone (s.stage m))) (handles_body after m) t.homes gone g spent_view
          (lies_still (BodyFits first finished copied plan.pieces m (s.stage m)) (handles_body s m) t.homes kept v (both_views v g) (shows.bodies m within) at (nowhere-body v m idle) (λ y fit. fit) refl (λ u other may. may))
          at' (nowhere-body g m idle') (fits-still plan.pieces m kept gone (s.stage m)) refl (λ u other may. may-still is_held refl kept gone u (s.stage m) (how m) other may);
      edges = λ c i edge. lies_still (EdgeFits first finished copied plan.pieces (callee s.callees c i) (s.edge c i).fill) (handles_edge after c i) t.homes gone g spent_view
          (lies_still (EdgeFits first finished copied plan.pieces (callee s.callees c i) (s.edge c i).fill) (handles_edge s c i) t.homes kept v (both_views v g) (shows.edges c i edge) at
          (nowhere-edge v c i idle) (λ y fit. fit) refl (λ u other may. may))
          at' (nowhere-edge g c i idle') (λ y fit. fit) refl (λ u other may. edge-still c i u other (s.edge c i).reported may);
    },
  )
    where
      after : State
      after = step s (Join kept gone)

      apart : kept ≢ gone
      apart same = ne (sym same)

      here : get_elem? t.views gone ≡ some g
      here = sym (set_else t.views kept gone (both_views v g) ne) ∙ at'

      tells : Tells s kept v
      tells = tells-now first finished copied plan t s kept v shows mine at

      theirs-tell : Tells s gone g
      theirs-tell = tells-now first finished copied plan t s gone g shows theirs here

      rest : (m : ℕ) → IsRest gone (s.stage m)
      rest m h is = ended.over m h (theirs-tell.moves m ∙ is)

      free : IsFree s gone
      free m = free-of gone (s.stage m) (rest m)

      first-true : (a b : Bool) → (a && b) ≡ true → a ≡ true
      first-true true b is = refl
      first-true false b is = absurd (false≢true is)

      told-all : HasReported s gone
      told-all c i edge is =
          let over : is_over (last_move g.moves (callee s.callees c i)) ≡ true = ap is_over (theirs-tell.moves (callee s.callees c i) ∙ done-over gone (s.stage (callee s.callees c i)) is) in
          let has : has_edge g.told c i ≡ true = ended.told c i (subst (λ cs. IsEdge cs c i) shows.callees edge) (subst (λ cs. is_over (last_move g.moves (callee cs c i)) ≡ true) shows.callees over) in
          first-true (s.edge c i).reported (is_over (hold_of gone (s.stage (callee s.callees c i)))) (sym (theirs-tell.told c i edge) ∙ has)

      how : (m : ℕ) → Kept kept gone (s.stage m)
      how m = keeps kept gone (s.stage m) apart (rest m)

      edge-still : (c i u : ℕ) → u ≢ gone → (b : Bool) → cond b (is_held (hold_of u (s.stage c))) (is_over (hold_of u (s.stage (callee s.callees c i)))) ≡ true
          → cond b (is_held (hold_of u (reassign kept gone (s.stage c)))) (is_over (hold_of u (reassign kept gone (s.stage (callee s.callees c i))))) ≡ true
      edge-still c i u other true may = may-still is_held refl kept gone u (s.stage c) (how c) other may
      edge-still c i u other false may = may-still is_over refl kept gone u (s.stage (callee s.callees c i)) (how (callee s.callees c i)) other may

      by_worker : (u : ℕ) (x : View P) → get_elem? (set (set t.views kept (both_views v g)) gone spent_view) u ≡ some x → (u ≡ gone) ⊎ (u ≢ gone) → (u ≡ kept) ⊎ (u ≢ kept) → ToldBy plan (step s (Join kept gone)) u x x.plan
      by_worker u x there (inl e) which =
          let is : spent_view ≡ x = some-injective spent_view x (sym (set_here (set t.views kept (both_views v g)) gone spent_view (position-lt (set t.views kept (both_views v g)) gone g at'))
          ∙ ap (get_elem? (set (set t.views kept (both_views v g)) gone spent_view)) (sym e) ∙ there) in
          subst (λ n. ToldBy plan (step s (Join kept gone)) n x x.plan) (sym e) (subst (λ (z : View P). ToldBy plan (step s (Join kept gone)) gone z z.plan) is
          (ap (λ y. y.gone) (put-here gone (record (s.worker gone) { gone = true }) s.worker), refl))
      by_worker u x there (inr other) (inl e) =
          let is : both_views v g ≡ x = some-injective (both_views v g) x (sym (set_here t.views kept (both_views v g) (position-lt t.views kept v at)) ∙ sym (set_else (set t.views kept (both_views v g)) gone kept spent_view apart)
          ∙ ap (get_elem? (set (set t.views kept (both_views v g)) gone spent_view)) (sym e) ∙ there) in
          subst (λ n. ToldBy plan (step s (Join kept gone)) n x x.plan) (sym e) (subst (λ z. ToldBy plan (step s (Join kept gone)) kept z z.plan) is
          (told_by plan plan (step s (Join kept gone)) kept (both_views v g) v.plan mine refl (record {
            moves = λ m. last_move-append v.moves g.moves m ∙ (λ j. first_of (tells.moves m j) (theirs-tell.moves m j)) ∙ kept-moves kept gone (s.stage m) (how m);
            once = λ m. done_times-append v.moves g.moves m ∙ ap₂ (λ a b. a + b) (tells.once m) (theirs-tell.once m) ∙ over-apart kept gone apart (s.stage m)
                ∙ ap one_if (kept-tests is_over refl kept gone (s.stage m) (how m));
            emptied = λ c i edge. has_edge-append v.emptied g.emptied c i ∙ (λ j. tells.emptied c i edge j || theirs-tell.emptied c i edge j)
                ∙ beside-both (is_emptied (s.edge c i).fill) (is_held (hold_of kept (s.stage c))) (is_held (hold_of gone (s.stage c)))
                ∙ ap (λ b. is_emptied (s.edge c i).fill && b) (kept-tests is_held refl kept gone (s.stage c) (how c));
            told = λ c i edge. has_edge-append v.told g.told c i ∙ (λ j. tells.told c i edge j || theirs-tell.told c i edge j)
                ∙ beside-both (s.edge c i).reported (is_over (hold_of kept (s.stage (callee s.callees c i)))) (is_over (hold_of gone (s.stage (callee s.callees c i))))
                ∙ ap (λ b. (s.edge c i).reported && b) (kept-tests is_over refl kept gone (s.stage (callee s.callees c i)) (how (callee s.callees c i)));
            passed = tells.passed ∙ ap (λ y. y.passed) (sym (put-other gone (record (s.worker gone) { gone = true }) s.worker kept apart));
            here = ap (λ y. y.gone) (put-other gone (record (s.worker gone) { gone = true }) s.worker kept apart) ∙ tells.here;
            splits = tells.splits;
            shares = omega (arith, tells.shares);
          })))
      by_worker u x there (inr other) (inr third) = told_still plan s (step s (Join kept gone)) u x x.plan refl
          (record {
            holds = λ m. others-hold kept gone u (s.stage m) third other;
            emptied = λ c i edge. ap (λ h. is_emptied (s.edge c i).fill && is_held h) (others-hold kept gone u (s.stage c) third other);
            told = λ c i edge. ap (λ h. (s.edge c i).reported && is_over h) (others-hold kept gone u (s.stage (callee s.callees c i)) third other);
            worker = put-other gone (record (s.worker gone) { gone = true }) s.worker u other;
            splits = λ first_one. refl;
          })
          (shows.told u x (sym (set_else t.views kept u (both_views v g) third) ∙ sym (set_else (set t.views kept (both_views v g)) gone u spent_view other) ∙ there))

-- what two finished workers are together
pub both-finished : {P : Type 0} (callees : List (List ℕ)) (v w : View P) → IsFinished callees v → IsFinished callees w → IsFinished callees (both_views v w)
both-finished callees v w first second = record {
  over = λ m h is. over m h (last_move v.moves m) refl (sym (last_move-append v.moves w.moves m) ∙ is);
  told = λ c i at over. has_edge-append v.told w.told c i ∙ told c i at (last_move v.moves (callee callees c i)) refl (ap is_over (sym (last_move-append v.moves w.moves (callee callees c i))) ∙ over);
}
  where
    over : (m : ℕ) (h : Hold) (o : Option Hold) → last_move v.moves m ≡ o → first_of (last_move v.moves m) (last_move w.moves m) ≡ Some h → h ≡ Over
    over m h None e is = second.over m h (sym (ap (λ o. first_of o (last_move w.moves m)) e) ∙ is)
    over m h (Some k) e is = let both : Some k ≡ Some h = sym (ap (λ o. first_of o (last_move w.moves m)) e) ∙ is in let same : k ≡ h = cc in sym same ∙ first.over m k e

    or-right : (a b : Bool) → b ≡ true → (a || b) ≡ true
    or-right true b is = refl
    or-right false b is = is

    told : (c i : ℕ) → IsEdge callees c i → (o : Option Hold) → last_move v.moves (callee callees c i) ≡ o → is_over (first_of (last_move v.moves (callee callees c i)) (last_move w.moves (callee callees c i))) ≡ true
        → (has_edge v.told c i || has_edge w.told c i) ≡ true
    told c i at None e is = or-right (has_edge v.told c i) (has_edge w.told c i) (second.told c i at (sym (ap (λ o. is_over (first_of o (last_move w.moves (callee callees c i)))) e) ∙ is))
    told c i at (Some k) e is = or-left (has_edge v.told c i) (has_edge w.told c i) (first.told c i at (ap is_over e ∙ sym (ap (λ o. is_over (first_of o (last_move w.moves (callee callees c i)))) e) ∙ is))
