-- A slot is taken: that keeps the rule.
use Rattle.std.proofs.Common.{◌≡◌, ◌≢◌, ℕ, ◌+◌, ◌<◌, ◌⊎◌, Bool, true, false, cond, ◌&&◌, List, ◌∷◌, length, set, Option, Some, None, slice_index, refl, sym, ap, subst, ◌∙◌, inl, inr, length-set, arith}
use Rattle.std.specs.Prelude.{◌==◌}
use Rattle.std.proofs.lemmas.Bool.{true≢false, false≢true, cases_eq, eqb-true}
use mathlib.Core.Option.{some, none, some-injective}
use lib.ListN.{get_elem?}
use prog.Atomic.{either}
use Rattle.atomic_table.specs.Table as table
use Rattle.atomic_table.specs.Table.{Me, takes, Allows, step}
use Rattle.atomic_table.proofs.Lists.{set_here, set_else, exchanged}
use Rattle.sched_core.specs.declared.parts.Stage.{Stage}
use Rattle.sched_core.specs.declared.parts.Stage.TheVariants.{Waiting, Owed, Taken, Done}
use Rattle.sched_core.specs.declared.parts.Fill.{Fill}
use Rattle.sched_core.specs.declared.parts.Fill.TheVariants.{Empty, Full, Emptied}
use Rattle.sched_core.specs.State.{State, callee, IsEdge, is_waiting, is_empty, is_emptied}
use Rattle.sched_core.proofs.Edges.{reported_unless_waiting}
use Rattle.shared_schedule.specs.declared.plan.Plan.{Plan}
use Rattle.shared_schedule.specs.declared.slot.Slot.{Slot}
use Rattle.shared_schedule.specs.declared.slot.Slot.TheVariants.{Bare, Copied}
use Rattle.shared_schedule.specs.declared.view.Hold.{Hold}
use Rattle.shared_schedule.specs.declared.view.Hold.TheVariants.{Due, Begun, Over}
use Rattle.shared_schedule.specs.declared.view.TableSlot.{TableSlot}
use Rattle.shared_schedule.specs.declared.view.TableSlot.TheVariants.{Nowhere, Body, Edge}
use Rattle.shared_schedule.specs.declared.view.View.{View}
use Rattle.shared_schedule.specs.Views.{callees_in, last_move, hold_of, is_held, is_over, has_edge, Tells}
use Rattle.shared_schedule.specs.Rule.{edge_slot, slots_of, handles_edge, handles_body, Lies, home, out, BodyFits, EdgeFits, Shows, Rule}
use Rattle.shared_schedule.specs.Plays.{lent_body, lent_edge, BodyIs, LendsBody, LendsCopy, LendsBare}
use Rattle.shared_schedule.proofs.Lookups.{position-lt}
use Rattle.shared_schedule.proofs.Staying.{Quiet, told_by, body_still, edge_still, Goes, goes}
use Rattle.shared_schedule.proofs.Stages.{due-stage, begun-stage, begun-stage}
use Rattle.shared_schedule.proofs.Drawing.{nowhere-body, nowhere-edge, tells-now}
use Rattle.shared_schedule.proofs.Positions.{edge_slot-past, edge_slot-apart, edge_slot-lt, edge-cases, set-read}

-- a test of the holder
held-by : (n v : ℕ) (h : Hold) → is_held (cond (n == v) (Some h) None) ≡ true → n ≡ v
held-by n v h = by_test (n == v) refl
  where
    by_test : (b : Bool) → (n == v) ≡ b → is_held (cond b (Some h) None) ≡ true → n ≡ v
    by_test true e is = eqb-true n v e
    by_test false e is = absurd (false≢true is)

-- a stage is something to one worker at most
pub one-holder : (u w : ℕ) (x : Stage) → is_held (hold_of u x) ≡ true → is_held (hold_of w x) ≡ true → u ≡ w
one-holder u w Waiting first second = absurd (false≢true first)
one-holder u w (Owed v) first second = held-by u v Due first ∙ sym (held-by w v Due second)
one-holder u w (Taken v) first second = held-by u v Begun first ∙ sym (held-by w v Begun second)
one-holder u w (Done v) first second = held-by u v Over first ∙ sym (held-by w v Over second)

-- what is over is held
pub over-held : (o : Option Hold) → is_over o ≡ true → is_held o ≡ true
over-held None is = is
over-held (Some h) is = refl

-- a test that fails beside one that passes
pub and-beside : (x b : Bool) → b ≡ true → (x && b) ≡ false → x ≡ false
and-beside true true is both = both
and-beside true false is both = absurd (false≢true is)
and-beside false b is both = refl

-- one worker at most may have an edge's slot
one-handler : (s : State) (c i u w : ℕ) → handles_edge s c i u ≡ true → handles_edge s c i w ≡ true → u ≡ w
one-handler s c i u w = by_report (s.edge c i).reported
  where
    by_report : (b : Bool) → cond b (is_held (hold_of u (s.stage c))) (is_over (hold_of u (s.stage (callee s.callees c i)))) ≡ true
        → cond b (is_held (hold_of w (s.stage c))) (is_over (hold_of w (s.stage (callee s.callees c i)))) ≡ true → u ≡ w
    by_report true first second = one-holder u w (s.stage c) first second
    by_report false first second = one-holder u w (s.stage (callee s.callees c i)) (over-held (hold_of u (s.stage (callee s.callees c i))) first) (over-held (hold_of w (s.stage (callee s.callees c i))) second)

-- nothing changes
pub quiet-same : (s : State) (u : ℕ) → Quiet s s u
quiet-same s u = record { holds = λ k. refl; emptied = λ c i at. refl; told = λ c i at. refl; worker = refl; splits = λ first. refl }

-- a slot that nobody else may have is at home
at-home : {S P : Type 0} {fits : S → Type 0} {handles : ℕ → Bool} {position : TableSlot} {homes : List (mathlib.Core.Option.Option S)} {k : ℕ} {views : List (View P)}
    (w : ℕ) (v : View P) → Lies fits handles position homes k views → get_elem? views w ≡ some v → (v.out ≡ position → ⊥) → ((u : ℕ) → handles u ≡ true → u ≡ w)
    → (y : S) × (get_elem? homes k ≡ some (some y)) × fits y
at-home w v (home y at fit) here apart only = (y, at, fit)
at-home {views = views} w v (out at u x there is may) here apart only =
    absurd (apart (ap (λ z. z.out) (some-injective v x (sym here ∙ ap (get_elem? views) (sym (only u may)) ∙ there)) ∙ is))

module _ {P B : Type 0} (first finished : P → ℕ → B → Type 0) (copied : P → ℕ → Option B → Type 0) where
  -- what fits the slot of a module that the worker holds
  body-is : (p : P) (w m : ℕ) (x : Stage) (h : Option Hold) (y : Slot B) → h ≡ hold_of w x → BodyFits first finished copied p m x y → BodyIs first copied p m h y
  body-is p w m x None y is fit = tt
  body-is p w m x (Some Due) y is fit = subst (λ z. BodyFits first finished copied p m z y) (due-stage w x (sym is)) fit
  body-is p w m x (Some Begun) y is fit = subst (λ z. BodyFits first finished copied p m z y) (begun-stage w x (sym is)) fit
  body-is p w m x (Some Over) y is fit = tt

  -- the slot of a module is taken by the worker that holds the module
  pub lends-body : (plan : Plan P) (slots w m : ℕ) (me : Me (Slot B) (View P)) → me.0.plan ≡ Some plan → me.0.out ≡ Nowhere → m < length (callees_in plan) → is_held (last_move me.0.moves m) ≡ true
      → Allows (Rule first finished copied plan) slots w me (m + 1) (λ n. n) (LendsBody first copied (step slots (m + 1) 0 0 none) me)
  lends-body plan slots w m me mine idle below held t (s, shows) long at fits = (
    lent_body me.0 m,
    takes m slot.0,
    slot.1,
    (
      s,
      goes first finished copied plan t s s w me.0 (lent_body me.0 m) words (set t.homes m none) shows at (record {
        callees = refl;
        workers = refl;
        sound = shows.sound;
        unput = shows.unput;
        wide = length-set t.words (m + 1) (slice_index t.words (m + 1));
        leaf = ap (λ ws. slice_index ws 0) (set-read t.words (m + 1)) ∙ shows.leaf;
        pending = λ c inside. ap (λ ws. slice_index ws (c + 1)) (set-read t.words (m + 1)) ∙ shows.pending c inside;
        homes = length-set t.homes m none;
        quiet = λ u apart. quiet-same s u;
        told = told_by plan plan s w (lent_body me.0 m) me.0.plan mine refl (record { moves = tells.moves; once = tells.once; emptied = tells.emptied; told = tells.told; passed = tells.passed; here = tells.here; splits = tells.splits; shares = tells.shares });
        shares = refl;
        bodies = λ k inside. by_module k inside (cases_eq k m);
        edges = λ c i there. edge_still first finished copied plan t s s w me.0 (lent_body me.0 m) (set t.homes m none) c i shows there at (nowhere-edge me.0 c i idle) refl
            (set_else t.homes m (edge_slot s.callees c i) none (edge_slot-past s.callees c i m within)) (λ u apart. quiet-same s u);
      }),
    ),
    told,
  )
    where
      words : List ℕ
      words = set t.words (m + 1) (slice_index t.words (m + 1))

      within : m < length s.callees
      within = omega (arith, ap length shows.callees)

      tells : Tells s w me.0
      tells = tells-now first finished copied plan t s w me.0 shows mine at

      held-now : is_held (hold_of w (s.stage m)) ≡ true
      held-now = ap is_held (sym (tells.moves m)) ∙ held

      slot : (y : Slot B) × (get_elem? t.homes m ≡ some (some y)) × BodyFits first finished copied plan.pieces m (s.stage m) y
      slot = at-home w me.0 (shows.bodies m within) at (nowhere-body me.0 m idle) (λ u may. one-holder u w (s.stage m) may held-now)

      by_module : (k : ℕ) → k < length s.callees → (k ≡ m) ⊎ (k ≢ m)
          → Lies (BodyFits first finished copied plan.pieces k (s.stage k)) (handles_body s k) (Body k) (set t.homes m none) k (set t.views w (lent_body me.0 m))
      by_module k inside (inl e) =
          subst (λ n. Lies (BodyFits first finished copied plan.pieces n (s.stage n)) (handles_body s n) (Body n) (set t.homes m none) n (set t.views w (lent_body me.0 m))) (sym e)
          (out (set_here t.homes m none (position-lt t.homes m (some slot.0) slot.1)) w (lent_body me.0 m) (set_here t.views w (lent_body me.0 m) (position-lt t.views w me.0 at)) refl held-now)
      by_module k inside (inr ne) =
          body_still first finished copied plan t s s w me.0 (lent_body me.0 m) (set t.homes m none) k shows inside at (nowhere-body me.0 k idle) (λ y fit. fit) (set_else t.homes m k none ne) (λ u apart. quiet-same s u)

      told : LendsBody first copied (step slots (m + 1) 0 0 none) me (slice_index t.words (m + 1)) (lent_body me.0 m, (m, slot.0) ∷ me.1)
      told plan' mine' m' is =
          let same : plan ≡ plan' = (let e : Some plan ≡ Some plan' = sym mine ∙ mine' in cc) in
          let same' : m ≡ m' = omega arith in
          subst (λ k. (y : Slot B) × ◌≡◌ {A = Me (Slot B) (View P)} (lent_body me.0 m, (m, slot.0) ∷ me.1) (lent_body me.0 k, (k, y) ∷ me.1) × BodyIs first copied plan'.pieces k (last_move me.0.moves k) y) same'
          (slot.0, refl, subst (λ z. BodyIs first copied z.pieces m (last_move me.0.moves m) slot.0) same (body-is plan.pieces w m (s.stage m) (last_move me.0.moves m) slot.0 (tells.moves m) slot.2))

  -- the slot of an edge is taken by the worker that may have it
  lends-edge : (plan : Plan P) (t : table.State (Slot B) (View P)) (s : State) (w c i n : ℕ) (v : View P) → Shows first finished copied plan t s → get_elem? t.views w ≡ some v → v.plan ≡ Some plan → v.out ≡ Nowhere
      → IsEdge s.callees c i → handles_edge s c i w ≡ true → n ≡ slice_index t.words (c + 1)
      → Goes first finished copied plan t s s w v (lent_edge v c i) (set t.words (c + 1) n) (set t.homes (edge_slot s.callees c i) none)
  lends-edge plan t s w c i n v shows at mine idle edge may same = record {
    callees = refl;
    workers = refl;
    sound = shows.sound;
    unput = shows.unput;
    wide = length-set t.words (c + 1) n;
    leaf = ap (λ ws. slice_index ws 0) words ∙ shows.leaf;
    pending = λ a inside. ap (λ ws. slice_index ws (a + 1)) words ∙ shows.pending a inside;
    homes = length-set t.homes (edge_slot s.callees c i) none;
    quiet = λ u apart. quiet-same s u;
    told = told_by plan plan s w (lent_edge v c i) v.plan mine refl (record { moves = tells.moves; once = tells.once; emptied = tells.emptied; told = tells.told; passed = tells.passed; here = tells.here; splits = tells.splits; shares = tells.shares });
    shares = refl;
    bodies = λ k inside. body_still first finished copied plan t s s w v (lent_edge v c i) (set t.homes (edge_slot s.callees c i) none) k shows inside at (nowhere-body v k idle) (λ y fit. fit)
        (set_else t.homes (edge_slot s.callees c i) k none (λ same. edge_slot-past s.callees c i k inside (sym same))) (λ u apart. quiet-same s u);
    edges = λ a b there. by_edge a b there (edge-cases c i a b);
  }
    where
      words : set t.words (c + 1) n ≡ t.words
      words = ap (set t.words (c + 1)) same ∙ set-read t.words (c + 1)

      tells : Tells s w v
      tells = tells-now first finished copied plan t s w v shows mine at

      by_edge : (a b : ℕ) → IsEdge s.callees a b → ((a ≡ c) × (b ≡ i)) ⊎ (a ≡ c → b ≡ i → ⊥)
          → Lies (EdgeFits first finished copied plan.pieces (callee s.callees a b) (s.edge a b).fill) (handles_edge s a b) (Edge a b) (set t.homes (edge_slot s.callees c i) none) (edge_slot s.callees a b) (set t.views w (lent_edge v c i))
      by_edge a b there (inl (e1, e2)) =
          subst (λ n. Lies (EdgeFits first finished copied plan.pieces (callee s.callees n b) (s.edge n b).fill) (handles_edge s n b) (Edge n b) (set t.homes (edge_slot s.callees c i) none)
          (edge_slot s.callees n b) (set t.views w (lent_edge v c i))) (sym e1)
          (subst (λ k. Lies (EdgeFits first finished copied plan.pieces (callee s.callees c k) (s.edge c k).fill) (handles_edge s c k) (Edge c k) (set t.homes (edge_slot s.callees c i) none)
          (edge_slot s.callees c k) (set t.views w (lent_edge v c i))) (sym e2)
          (out (set_here t.homes (edge_slot s.callees c i) none (let below : edge_slot s.callees c i < slots_of s.callees = edge_slot-lt s.callees c i edge in omega (arith, shows.homes))) w
          (lent_edge v c i) (set_here t.views w (lent_edge v c i) (position-lt t.views w v at)) refl may))
      by_edge a b there (inr ne) =
          edge_still first finished copied plan t s s w v (lent_edge v c i) (set t.homes (edge_slot s.callees c i) none) a b shows there at (nowhere-edge v a b idle) refl
          (set_else t.homes (edge_slot s.callees c i) (edge_slot s.callees a b) none (edge_slot-apart s.callees c i a b edge there ne)) (λ u apart. quiet-same s u)

  -- a slot whose edge is full has a copy
  full-copy : (p : P) (k : ℕ) (f : Fill) (y : Slot B) → is_empty f ≡ false → is_emptied f ≡ false → EdgeFits first finished copied p k f y → (o : Option B) × (y ≡ Copied o) × copied p k o
  full-copy p k Empty y put new fit = absurd (true≢false put)
  full-copy p k Full y put new fit = fit
  full-copy p k Emptied y put new fit = absurd (true≢false new)

  compared : (n i : ℕ) → either (n == i) i n ≡ n
  compared n i = exchanged n i i (λ z. z ≡ n) (λ hit. sym hit) (λ miss. refl)

  -- the slot of a full edge is taken by the worker that has taken the caller
  pub lends-copy : (plan : Plan P) (slots w c i : ℕ) (me : Me (Slot B) (View P)) → me.0.plan ≡ Some plan → me.0.out ≡ Nowhere → IsEdge (callees_in plan) c i
      → last_move me.0.moves c ≡ Some Begun → has_edge me.0.emptied c i ≡ false
      → Allows (Rule first finished copied plan) slots w me (c + 1) (λ n. either (n == i) i n) (LendsCopy first copied (step slots (c + 1) i i none) me)
  lends-copy plan slots w c i me mine idle edge begun new t (s, shows) long at fits = (
    lent_edge me.0 c i,
    takes (edge_slot s.callees c i) slot.0,
    slot.1,
    (
      s,
      goes first finished copied plan t s s w me.0 (lent_edge me.0 c i) (set t.words (c + 1) (either (n == i) i n)) (set t.homes (edge_slot s.callees c i) none) shows at
          (lends-edge plan t s w c i (either (n == i) i n) me.0 shows at mine idle here may (compared n i)),
    ),
    told,
  )
    where
      n : ℕ
      n = slice_index t.words (c + 1)

      tells : Tells s w me.0
      tells = tells-now first finished copied plan t s w me.0 shows mine at

      here : IsEdge s.callees c i
      here = subst (λ cs. IsEdge cs c i) (sym shows.callees) edge

      taken : s.stage c ≡ Taken w
      taken = begun-stage w (s.stage c) (sym (tells.moves c) ∙ begun)

      held : is_held (hold_of w (s.stage c)) ≡ true
      held = ap is_held (sym (tells.moves c) ∙ begun)

      reported : (s.edge c i).reported ≡ true
      reported = reported_unless_waiting s c i shows.sound (ap is_waiting taken) here

      may : handles_edge s c i w ≡ true
      may = ap (λ b. cond b (is_held (hold_of w (s.stage c))) (is_over (hold_of w (s.stage (callee s.callees c i))))) reported ∙ held

      still_full : is_emptied (s.edge c i).fill ≡ false
      still_full = and-beside (is_emptied (s.edge c i).fill) (is_held (hold_of w (s.stage c))) held (sym (tells.emptied c i here) ∙ new)

      slot : (y : Slot B) × (get_elem? t.homes (edge_slot s.callees c i) ≡ some (some y)) × EdgeFits first finished copied plan.pieces (callee s.callees c i) (s.edge c i).fill y
      slot = at-home w me.0 (shows.edges c i here) at (nowhere-edge me.0 c i idle) (λ u other. one-handler s c i u w other may)

      copy : (o : Option B) × (slot.0 ≡ Copied o) × copied plan.pieces (callee s.callees c i) o
      copy = full-copy plan.pieces (callee s.callees c i) (s.edge c i).fill slot.0 ((shows.sound.reported c i here reported).1) still_full slot.2

      told : LendsCopy first copied (step slots (c + 1) i i none) me n (lent_edge me.0 c i, (edge_slot s.callees c i, slot.0) ∷ me.1)
      told plan' mine' c' i' is is' =
          let same : plan ≡ plan' = (let e : Some plan ≡ Some plan' = sym mine ∙ mine' in cc) in
          let lists : s.callees ≡ callees_in plan' = shows.callees ∙ ap callees_in same in
          let same' : c ≡ c' = omega arith in
          subst (λ k. (o : Option B) × ◌≡◌ {A = Me (Slot B) (View P)} (lent_edge me.0 c i, (edge_slot s.callees c i, slot.0) ∷ me.1)
          (lent_edge me.0 k i', (edge_slot (callees_in plan') k i', Copied o) ∷ me.1) × copied plan'.pieces (callee (callees_in plan') k i') o) same'
          (subst (λ j. (o : Option B) × ◌≡◌ {A = Me (Slot B) (View P)} (lent_edge me.0 c i, (edge_slot s.callees c i, slot.0) ∷ me.1)
          (lent_edge me.0 c j, (edge_slot (callees_in plan') c j, Copied o) ∷ me.1) × copied plan'.pieces (callee (callees_in plan') c j) o) is'
          (copy.0, (λ j. (lent_edge me.0 c i, (edge_slot (lists j) c i, copy.1 j) ∷ me.1)), subst (λ z. copied z.pieces (callee (callees_in plan') c i) copy.0) same (subst (λ cs. copied plan.pieces (callee cs c i) copy.0) lists copy.2)))

  -- the slot of an edge that is not reported is taken by the worker that did the callee
  pub lends-bare : (plan : Plan P) (slots w c i : ℕ) (me : Me (Slot B) (View P)) → me.0.plan ≡ Some plan → me.0.out ≡ Nowhere → IsEdge (callees_in plan) c i
      → last_move me.0.moves (callee (callees_in plan) c i) ≡ Some Over → has_edge me.0.told c i ≡ false
      → Allows (Rule first finished copied plan) slots w me (c + 1) (λ n. either (n == i) i n) (LendsBare first copied (step slots (c + 1) i i none) me)
  lends-bare plan slots w c i me mine idle edge over new t (s, shows) long at fits = (
    lent_edge me.0 c i,
    takes (edge_slot s.callees c i) slot.0,
    slot.1,
    (
      s,
      goes first finished copied plan t s s w me.0 (lent_edge me.0 c i) (set t.words (c + 1) (either (n == i) i n)) (set t.homes (edge_slot s.callees c i) none) shows at
          (lends-edge plan t s w c i (either (n == i) i n) me.0 shows at mine idle here may (compared n i)),
    ),
    told,
  )
    where
      n : ℕ
      n = slice_index t.words (c + 1)

      tells : Tells s w me.0
      tells = tells-now first finished copied plan t s w me.0 shows mine at

      here : IsEdge s.callees c i
      here = subst (λ cs. IsEdge cs c i) (sym shows.callees) edge

      over-now : is_over (hold_of w (s.stage (callee s.callees c i))) ≡ true
      over-now = ap is_over (sym (tells.moves (callee s.callees c i)) ∙ ap (λ cs. last_move me.0.moves (callee cs c i)) shows.callees ∙ over)

      unreported : (s.edge c i).reported ≡ false
      unreported = and-beside (s.edge c i).reported (is_over (hold_of w (s.stage (callee s.callees c i)))) over-now (sym (tells.told c i here) ∙ new)

      may : handles_edge s c i w ≡ true
      may = ap (λ b. cond b (is_held (hold_of w (s.stage c))) (is_over (hold_of w (s.stage (callee s.callees c i))))) unreported ∙ over-now

      slot : (y : Slot B) × (get_elem? t.homes (edge_slot s.callees c i) ≡ some (some y)) × EdgeFits first finished copied plan.pieces (callee s.callees c i) (s.edge c i).fill y
      slot = at-home w me.0 (shows.edges c i here) at (nowhere-edge me.0 c i idle) (λ u other. one-handler s c i u w other may)

      bare : slot.0 ≡ Bare
      bare = subst (λ f. EdgeFits first finished copied plan.pieces (callee s.callees c i) f slot.0) (shows.unput c i here unreported) slot.2

      told : LendsBare first copied (step slots (c + 1) i i none) me n (lent_edge me.0 c i, (edge_slot s.callees c i, slot.0) ∷ me.1)
      told plan' mine' c' i' is is' =
          let same : plan ≡ plan' = (let e : Some plan ≡ Some plan' = sym mine ∙ mine' in cc) in
          let lists : s.callees ≡ callees_in plan' = shows.callees ∙ ap callees_in same in
          let same' : c ≡ c' = omega arith in
          (λ j. (lent_edge me.0 (same' j) (is' j), (edge_slot (lists j) (same' j) (is' j), bare j) ∷ me.1))
