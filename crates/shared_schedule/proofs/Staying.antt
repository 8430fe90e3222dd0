-- What stays as it is at a step of another worker.
use Rattle.std.proofs.Common.{◌≡◌, ◌≢◌, ℕ, ◌+◌, ◌<◌, ◌⊎◌, Bool, true, false, cond, ◌&&◌, List, length, set, Option, Some, None, slice_index, sum_by, sym, ap, subst, ◌∙◌, inl, inr, length-set, arith}
use Rattle.std.proofs.lemmas.Bool.{cases_eq}
use mathlib.Core.Option.{some, none, some-injective}
use lib.ListN.{get_elem?}
use Rattle.atomic_table.specs.Table as table
use Rattle.atomic_table.proofs.Lists.{set_here, set_else}
use Rattle.sched_core.specs.declared.parts.Fill.TheVariants.{Empty}
use Rattle.sched_core.specs.Sums.{one_if}
use Rattle.sched_core.specs.State.{State, callee, IsEdge, is_emptied}
use Rattle.sched_core.specs.Sound.{Sound}
use Rattle.sched_core.specs.Runs.{AreCallees}
use Rattle.shared_schedule.specs.declared.plan.Plan.{Plan}
use Rattle.shared_schedule.specs.declared.slot.Slot.{Slot}
use Rattle.shared_schedule.specs.declared.view.TableSlot.{TableSlot}
use Rattle.shared_schedule.specs.declared.view.TableSlot.TheVariants.{Body, Edge}
use Rattle.shared_schedule.specs.declared.view.View.{View}
use Rattle.shared_schedule.specs.Views.{hold_of, is_held, is_over, Tells, ToldBy}
use Rattle.shared_schedule.specs.Rule.{edge_slot, slots_of, handles_edge, handles_body, Lies, home, out, BodyFits, EdgeFits, Shows}
use Rattle.shared_schedule.proofs.Lookups.{position-lt, sum-changed}

-- what this worker knows is the same in another state
pub record Quiet (s after : State) (u : ℕ) : Type 0 where
  pub holds : (m : ℕ) → hold_of u (after.stage m) ≡ hold_of u (s.stage m)
  pub emptied : (c i : ℕ) → IsEdge s.callees c i
      → (is_emptied (after.edge c i).fill && is_held (hold_of u (after.stage c))) ≡ (is_emptied (s.edge c i).fill && is_held (hold_of u (s.stage c)))
  pub told : (c i : ℕ) → IsEdge s.callees c i
      → ((after.edge c i).reported && is_over (hold_of u (after.stage (callee s.callees c i)))) ≡ ((s.edge c i).reported && is_over (hold_of u (s.stage (callee s.callees c i))))
  pub worker : after.worker u ≡ s.worker u
  pub splits : u ≡ 0 → after.splits ≡ s.splits

-- then its view stays true
pub tells_still : {P : Type 0} (s after : State) (u : ℕ) (v : View P) → after.callees ≡ s.callees → Quiet s after u → Tells s u v → Tells after u v
tells_still s after u v same quiet t = record {
  moves = λ m. t.moves m ∙ sym (quiet.holds m);
  once = λ m. t.once m ∙ ap (λ h. one_if (is_over h)) (sym (quiet.holds m));
  emptied = λ c i at. let old : IsEdge s.callees c i = subst (λ cs. IsEdge cs c i) same at in t.emptied c i old ∙ sym (quiet.emptied c i old);
  told = λ c i at. let old : IsEdge s.callees c i = subst (λ cs. IsEdge cs c i) same at in
      t.told c i old ∙ sym (quiet.told c i old) ∙ ap (λ cs. (after.edge c i).reported && is_over (hold_of u (after.stage (callee cs c i)))) (sym same);
  passed = t.passed ∙ ap (λ x. x.passed) (sym quiet.worker);
  here = ap (λ x. x.gone) quiet.worker ∙ t.here;
  splits = λ first. t.splits first ∙ sym (quiet.splits first);
  shares = t.shares;
}

pub told_still : {P : Type 0} (plan : Plan P) (s after : State) (u : ℕ) (v : View P) (o : Option (Plan P)) → after.callees ≡ s.callees → Quiet s after u
    → ToldBy plan s u v o → ToldBy plan after u v o
told_still plan s after u v None same quiet told = (ap (λ x. x.gone) quiet.worker ∙ told.0, told.1)
told_still plan s after u v (Some mine) same quiet told = (told.0, tells_still s after u v same quiet told.1)

-- the view of a worker with a plan is true
pub tells_of : {P : Type 0} (plan mine : Plan P) (s : State) (w : ℕ) (v : View P) (o : Option (Plan P)) → o ≡ Some mine → ToldBy plan s w v o → (mine ≡ plan) × Tells s w v
tells_of plan mine s w v None is told = absurd (cc)
tells_of plan mine s w v (Some p) is told = (let e : p ≡ mine = cc in sym e ∙ told.0, told.1)

pub told_by : {P : Type 0} (plan mine : Plan P) (s : State) (w : ℕ) (v : View P) (o : Option (Plan P)) → o ≡ Some mine → mine ≡ plan → Tells s w v → ToldBy plan s w v o
told_by plan mine s w v None is same tells = absurd (cc)
told_by plan mine s w v (Some p) is same tells = (let e : p ≡ mine = cc in e ∙ same, tells)

-- a slot lies where it lay, where a worker changes that has another slot out or none
pub lies_still : {S P : Type 0} {fits : S → Type 0} {handles : ℕ → Bool} {position : TableSlot} {homes : List (mathlib.Core.Option.Option S)} {k : ℕ} {views : List (View P)}
    (fits' : S → Type 0) (handles' : ℕ → Bool) (homes' : List (mathlib.Core.Option.Option S)) (w : ℕ) (v v' : View P)
    → Lies fits handles position homes k views → get_elem? views w ≡ some v → (v.out ≡ position → ⊥) → ((y : S) → fits y → fits' y) → get_elem? homes' k ≡ get_elem? homes k
    → ((u : ℕ) → u ≢ w → handles u ≡ true → handles' u ≡ true) → Lies fits' handles' position homes' k (set views w v')
lies_still fits' handles' homes' w v v' (home y at fit) here apart fits same keeps = home y (same ∙ at) (fits y fit)
lies_still {position = position} {k = k} {views = views} fits' handles' homes' w v v' (out at u x there is may) here apart fits same keeps = by_worker (cases_eq u w)
  where
    by_worker : (u ≡ w) ⊎ (u ≢ w) → Lies fits' handles' position homes' k (set views w v')
    by_worker (inl e) = absurd (apart (ap (λ z. z.out) (some-injective v x (sym here ∙ ap (get_elem? views) (sym e) ∙ there)) ∙ is))
    by_worker (inr ne) = out (same ∙ at) u x (set_else views w u v' ne ∙ there) is (keeps u ne may)

module _ {P B : Type 0} (first finished : P → ℕ → B → Type 0) (copied : P → ℕ → Option B → Type 0) where
  -- a module's slot
  pub body_still : (plan : Plan P) (t : table.State (Slot B) (View P)) (s after : State) (w : ℕ) (v v' : View P) (homes : List (mathlib.Core.Option.Option (Slot B))) (m : ℕ)
      → Shows first finished copied plan t s → m < length s.callees → get_elem? t.views w ≡ some v → (v.out ≡ Body m → ⊥)
      → ((y : Slot B) → BodyFits first finished copied plan.pieces m (s.stage m) y → BodyFits first finished copied plan.pieces m (after.stage m) y)
      → get_elem? homes m ≡ get_elem? t.homes m → ((u : ℕ) → u ≢ w → Quiet s after u)
      → Lies (BodyFits first finished copied plan.pieces m (after.stage m)) (handles_body after m) (Body m) homes m (set t.views w v')
  body_still plan t s after w v v' homes m shows within here apart fits same quiet =
      lies_still (BodyFits first finished copied plan.pieces m (after.stage m)) (handles_body after m) homes w v v' (shows.bodies m within) here apart fits same
      (λ u ne may. ap is_held ((quiet u ne).holds m) ∙ may)

  -- an edge's slot
  pub edge_still : (plan : Plan P) (t : table.State (Slot B) (View P)) (s after : State) (w : ℕ) (v v' : View P) (homes : List (mathlib.Core.Option.Option (Slot B))) (c i : ℕ)
      → Shows first finished copied plan t s → IsEdge s.callees c i → get_elem? t.views w ≡ some v → (v.out ≡ Edge c i → ⊥) → after.edge c i ≡ s.edge c i
      → get_elem? homes (edge_slot s.callees c i) ≡ get_elem? t.homes (edge_slot s.callees c i) → ((u : ℕ) → u ≢ w → Quiet s after u)
      → Lies (EdgeFits first finished copied plan.pieces (callee s.callees c i) (after.edge c i).fill)
      (λ u. cond (after.edge c i).reported (is_held (hold_of u (after.stage c))) (is_over (hold_of u (after.stage (callee s.callees c i)))))
      (Edge c i) homes (edge_slot s.callees c i) (set t.views w v')
  edge_still plan t s after w v v' homes c i shows at here apart is same quiet =
      lies_still (EdgeFits first finished copied plan.pieces (callee s.callees c i) (after.edge c i).fill)
      (λ u. cond (after.edge c i).reported (is_held (hold_of u (after.stage c))) (is_over (hold_of u (after.stage (callee s.callees c i)))))
      homes w v v' (shows.edges c i at) here apart (λ y fit. subst (λ e. EdgeFits first finished copied plan.pieces (callee s.callees c i) e.fill y) (sym is) fit) same
      (λ u ne may. let q = quiet u ne in
      ap (λ e. cond e.reported (is_held (hold_of u (after.stage c))) (is_over (hold_of u (after.stage (callee s.callees c i))))) is
      ∙ ap (λ h. cond (s.edge c i).reported (is_held h) (is_over (hold_of u (after.stage (callee s.callees c i))))) (q.holds c)
      ∙ ap (λ h. cond (s.edge c i).reported (is_held (hold_of u (s.stage c))) (is_over h)) (q.holds (callee s.callees c i)) ∙ may)

  -- what a step of one worker has to show
  pub record Goes (plan : Plan P) (t : table.State (Slot B) (View P)) (s after : State) (w : ℕ) (v v' : View P) (words : List ℕ) (shelf : List (mathlib.Core.Option.Option (Slot B))) : Type 0 where
    pub callees : after.callees ≡ s.callees
    pub workers : after.workers ≡ s.workers
    pub sound : Sound after
    pub unput : (c i : ℕ) → IsEdge after.callees c i → (after.edge c i).reported ≡ false → (after.edge c i).fill ≡ Empty
    pub wide : length words ≡ length t.words
    pub leaf : slice_index words 0 ≡ after.leaf
    pub pending : (c : ℕ) → c < length after.callees → slice_index words (c + 1) ≡ after.pending_edges c
    pub homes : length shelf ≡ length t.homes
    pub quiet : (u : ℕ) → u ≢ w → Quiet s after u
    pub told : ToldBy plan after w v' v'.plan
    pub shares : v'.shares ≡ v.shares
    pub bodies : (m : ℕ) → m < length after.callees → Lies (BodyFits first finished copied plan.pieces m (after.stage m)) (handles_body after m) (Body m) shelf m (set t.views w v')
    pub edges : (c i : ℕ) → IsEdge after.callees c i
        → Lies (EdgeFits first finished copied plan.pieces (callee after.callees c i) (after.edge c i).fill) (handles_edge after c i) (Edge c i) shelf (edge_slot after.callees c i) (set t.views w v')

  -- then the table shows the state after it
  pub goes : (plan : Plan P) (t : table.State (Slot B) (View P)) (s after : State) (w : ℕ) (v v' : View P) (words : List ℕ) (homes : List (mathlib.Core.Option.Option (Slot B)))
      → Shows first finished copied plan t s → get_elem? t.views w ≡ some v → Goes plan t s after w v v' words homes
      → Shows first finished copied plan (record { words = words; homes = homes; views = set t.views w v' }) after
  goes plan t s after w v v' words homes shows here g = record {
    callees = g.callees ∙ shows.callees;
    lists = subst AreCallees (sym g.callees) shows.lists;
    sound = g.sound;
    unput = g.unput;
    wide = g.wide ∙ shows.wide ∙ ap (λ cs. length cs + 1) (sym g.callees);
    leaf = g.leaf;
    pending = g.pending;
    come = length-set t.views w v' ∙ shows.come ∙ sym g.workers;
    shares =
        let sum : sum_by (λ z. z.shares) (set t.views w v') + v.shares ≡ sum_by (λ z. z.shares) t.views + v'.shares = sum-changed (λ z. z.shares) t.views w v v' here in
        let old : sum_by (λ z. z.shares) t.views ≡ s.workers = shows.shares in
        let same : v'.shares ≡ v.shares = g.shares in
        let count : after.workers ≡ s.workers = g.workers in
        omega arith;
    told = λ u x there. by_worker u x there (cases_eq u w);
    homes = g.homes ∙ shows.homes ∙ ap slots_of (sym g.callees);
    bodies = g.bodies;
    edges = g.edges;
  }
    where
      by_worker : (u : ℕ) (x : View P) → get_elem? (set t.views w v') u ≡ some x → (u ≡ w) ⊎ (u ≢ w) → ToldBy plan after u x x.plan
      by_worker u x there (inl e) =
          let is : v' ≡ x = some-injective v' x (sym (set_here t.views w v' (position-lt t.views w v here)) ∙ ap (get_elem? (set t.views w v')) (sym e) ∙ there) in
          subst (λ n. ToldBy plan after n x x.plan) (sym e) (subst (λ z. ToldBy plan after w z z.plan) is g.told)
      by_worker u x there (inr ne) =
          told_still plan s after u x x.plan g.callees (g.quiet u ne) (shows.told u x (sym (set_else t.views w u v' ne) ∙ there))
