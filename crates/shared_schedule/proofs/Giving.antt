-- A slot is given back, and a module or an edge has moved on: that keeps the rule.
use Rattle.std.proofs.Common.{◌≡◌, ◌≢◌, ℕ, ◌+◌, ◌<◌, ◌⊎◌, Bool, true, false, ◌&&◌, List, [], ◌∷◌, length, set, Option, Some, slice_index, refl, sym, ap, subst, ◌∙◌, inl, inr, length-set, arith}
use Rattle.std.proofs.lemmas.Bool.{true≢false, false≢true, cases_eq}
use mathlib.Core.Option.{some, none}
use lib.ListN.{get_elem?}
use Rattle.atomic_table.specs.Table as table
use Rattle.atomic_table.specs.Table.{Me, gives, Allows, step, rest, put_back}
use Rattle.atomic_table.proofs.Lists.{set_here, set_else}
use Rattle.sched_core.specs.declared.parts.Stage.{Stage}
use Rattle.sched_core.specs.declared.parts.Stage.TheVariants.{Owed, Taken, Done}
use Rattle.sched_core.specs.declared.parts.Fill.{Fill}
use Rattle.sched_core.specs.declared.parts.Fill.TheVariants.{Empty, Full, Emptied}
use Rattle.sched_core.specs.declared.parts.Edge.{Edge as EdgeState}
use Rattle.sched_core.specs.Sums.{put}
use Rattle.sched_core.specs.State.{State, callee, IsEdge, is_waiting, is_emptied}
use Rattle.sched_core.specs.Sound.{Sound}
use Rattle.sched_core.proofs.Puts.{put-here, put-other}
use Rattle.sched_core.proofs.Moves.{take-sound, put_done-sound}
use Rattle.sched_core.proofs.Edges.{reported_unless_waiting, take_edge-sound, put_edge, put_edge_cases}
use Rattle.shared_schedule.specs.declared.plan.Plan.{Plan}
use Rattle.shared_schedule.specs.declared.slot.Slot.{Slot}
use Rattle.shared_schedule.specs.declared.slot.Slot.TheVariants.{Away, Made, Cleared}
use Rattle.shared_schedule.specs.declared.view.Hold.{Hold}
use Rattle.shared_schedule.specs.declared.view.Hold.TheVariants.{Due, Begun, Over}
use Rattle.shared_schedule.specs.declared.view.TableSlot.TheVariants.{Nowhere, Body, Edge}
use Rattle.shared_schedule.specs.declared.view.View.{View}
use Rattle.shared_schedule.specs.Views.{callees_in, last_move, hold_of, is_held, has_edge, Tells}
use Rattle.shared_schedule.specs.Rule.{edge_slot, slots_of, handles_edge, handles_body, Lies, home, BodyFits, EdgeFits, Shows, Rule}
use Rattle.shared_schedule.specs.Plays.{moved, cleared, GivesBody, GivesEdge}
use Rattle.shared_schedule.proofs.Staying.{Quiet, told_by, body_still, edge_still, goes}
use Rattle.shared_schedule.proofs.Stages.{due-stage, begun-stage, owed-other, taken-other, done-other, quiet-stage, tells-taken, tells-done}
use Rattle.shared_schedule.proofs.Drawing.{Next, tells-now}
use Rattle.shared_schedule.proofs.Positions.{edge_slot-past, edge_slot-apart, edge_slot-lt, edge-cases, set-read, put_edge-here, put_edge-other}
use Rattle.shared_schedule.proofs.Filling.{quiet-edge, tells-cleared, full-fill}
use Rattle.shared_schedule.proofs.Lending.{and-beside}

-- an edge that is emptied
emptied-fill : (f : Fill) (b : Bool) → (is_emptied f && b) ≡ true → f ≡ Emptied
emptied-fill Empty b is = absurd (false≢true is)
emptied-fill Full b is = absurd (false≢true is)
emptied-fill Emptied b is = refl

-- the slots of modules are among the slots
pub module-position : (callees : List (List ℕ)) (n m : ℕ) → n ≡ slots_of callees → m < length callees → m < n
module-position callees n m long within = omega arith

pub edge-position : (callees : List (List ℕ)) (n c i : ℕ) → n ≡ slots_of callees → IsEdge callees c i → edge_slot callees c i < n
edge-position callees n c i long at = let below : edge_slot callees c i < slots_of callees = edge_slot-lt callees c i at in omega arith

module _ {P B : Type 0} (first finished : P → ℕ → B → Type 0) (copied : P → ℕ → Option B → Type 0) where
  -- the slot of a module is given back, and the module is at another stage
  gives-body : (plan : Plan P) (slots w m : ℕ) (me : Me (Slot B) (View P)) (h : Hold) (x : Stage) (y : Slot B) (t : table.State (Slot B) (View P)) (s : State)
      → Shows first finished copied plan t s → get_elem? t.views w ≡ some me.0 → me.0.plan ≡ Some plan → me.0.out ≡ Body m → me.1 ≡ (m, y) ∷ [] → m < length s.callees
      → Sound (record s { stage = put m x s.stage }) → Tells (record s { stage = put m x s.stage }) w (moved me.0 m h)
      → ((u : ℕ) → u ≢ w → hold_of u x ≡ hold_of u (s.stage m)) → BodyFits first finished copied plan.pieces m x y
      → Next first finished copied plan t w me 0 (slice_index t.words 0) (slice_index t.words 0) (GivesBody first copied h (step slots 0 0 0 none) me)
  gives-body plan slots w m me h x y t s shows at mine lent carried within sound tells others fit = (
    moved me.0 m h,
    gives,
    tt,
    (
      after,
      subst (λ l. Shows first finished copied plan (record { words = words; homes = put_back t.homes l; views = set t.views w (moved me.0 m h) }) after) (sym carried)
          (goes first finished copied plan t s after w me.0 (moved me.0 m h) words shelf shows at (record {
            callees = refl;
            workers = refl;
            sound = sound;
            unput = shows.unput;
            wide = length-set t.words 0 (slice_index t.words 0);
            leaf = ap (λ ws. slice_index ws 0) (set-read t.words 0) ∙ shows.leaf;
            pending = λ c inside. ap (λ ws. slice_index ws (c + 1)) (set-read t.words 0) ∙ shows.pending c inside;
            homes = length-set t.homes m (some y);
            quiet = quiet;
            told = told_by plan plan after w (moved me.0 m h) me.0.plan mine refl tells;
            shares = refl;
            bodies = λ k inside. by_module k inside (cases_eq k m);
            edges = λ c i there. edge_still first finished copied plan t s after w me.0 (moved me.0 m h) shelf c i shows there at (λ is. let e : Body m ≡ Edge c i = sym lent ∙ is in absurd (cc)) refl
                (set_else t.homes m (edge_slot s.callees c i) (some y) (edge_slot-past s.callees c i m within)) quiet;
          })),
    ),
    told,
  )
    where
      after : State
      after = record s { stage = put m x s.stage }

      words : List ℕ
      words = set t.words 0 (slice_index t.words 0)

      shelf : List (mathlib.Core.Option.Option (Slot B))
      shelf = set t.homes m (some y)

      quiet : (u : ℕ) → u ≢ w → Quiet s (record s { stage = put m x s.stage }) u
      quiet u apart = quiet-stage s m x u (others u apart)

      by_module : (k : ℕ) → k < length s.callees → (k ≡ m) ⊎ (k ≢ m)
          → Lies (BodyFits first finished copied plan.pieces k (put m x s.stage k)) (handles_body (record s { stage = put m x s.stage }) k) (Body k) (set t.homes m (some y)) k (set t.views w (moved me.0 m h))
      by_module k inside (inl e) =
          subst (λ n. Lies (BodyFits first finished copied plan.pieces n (put m x s.stage n)) (handles_body (record s { stage = put m x s.stage }) n) (Body n) (set t.homes m (some y)) n (set t.views w (moved me.0 m h))) (sym e)
          (home y (set_here t.homes m (some y) (module-position s.callees (length t.homes) m shows.homes within)) (subst (λ z. BodyFits first finished copied plan.pieces m z y) (sym (put-here m x s.stage)) fit))
      by_module k inside (inr ne) =
          body_still first finished copied plan t s after w me.0 (moved me.0 m h) shelf k shows inside at (λ is. let e : Body m ≡ Body k = sym lent ∙ is in ne (cc))
          (λ z old. subst (λ a. BodyFits first finished copied plan.pieces k a z) (sym (put-other m x s.stage k ne)) old) (set_else t.homes m k (some y) ne) quiet

      told : GivesBody first copied h (step slots 0 0 0 none) me (slice_index t.words 0) (moved me.0 m h, rest me.1)
      told m' is = let same : m ≡ m' = (let e : Body m ≡ Body m' = sym lent ∙ is in cc) in ap (λ k. (moved me.0 k h, rest me.1)) same

  -- an owed module is taken
  pub gives-begun : (plan : Plan P) (slots w m : ℕ) (me : Me (Slot B) (View P)) → me.0.plan ≡ Some plan → me.0.out ≡ Body m → me.1 ≡ (m, Away) ∷ [] → m < length (callees_in plan)
      → last_move me.0.moves m ≡ Some Due
      → Allows (Rule first finished copied plan) slots w me 0 (λ n. n) (GivesBody first copied Begun (step slots 0 0 0 none) me)
  gives-begun plan slots w m me mine lent carried below due t (s, shows) long at fits =
      let tells : Tells s w me.0 = tells-now first finished copied plan t s w me.0 shows mine at in
      let owed : s.stage m ≡ Owed w = due-stage w (s.stage m) (sym (tells.moves m) ∙ due) in
      gives-body plan slots w m me Begun (Taken w) Away t s shows at mine lent carried (omega (arith, ap length shows.callees)) (take-sound s w m shows.sound owed)
      (tells-taken s w m me.0 Nowhere tells owed) (λ u apart. taken-other u w apart ∙ sym (ap (hold_of u) owed ∙ owed-other u w apart)) refl

  -- a taken module is done
  pub gives-over : (plan : Plan P) (slots w m : ℕ) (me : Me (Slot B) (View P)) (b : B) → me.0.plan ≡ Some plan → me.0.out ≡ Body m → me.1 ≡ (m, Made b) ∷ [] → m < length (callees_in plan)
      → last_move me.0.moves m ≡ Some Begun → ((i : ℕ) → IsEdge (callees_in plan) m i → has_edge me.0.emptied m i ≡ true) → finished plan.pieces m b
      → Allows (Rule first finished copied plan) slots w me 0 (λ n. n) (GivesBody first copied Over (step slots 0 0 0 none) me)
  gives-over plan slots w m me b mine lent carried below begun all is t (s, shows) long at fits =
      let tells : Tells s w me.0 = tells-now first finished copied plan t s w me.0 shows mine at in
      let taken : s.stage m ≡ Taken w = begun-stage w (s.stage m) (sym (tells.moves m) ∙ begun) in
      gives-body plan slots w m me Over (Done w) (Made b) t s shows at mine lent carried (omega (arith, ap length shows.callees))
      (put_done-sound s w m shows.sound (taken, λ i edge. emptied-fill (s.edge m i).fill (is_held (hold_of w (s.stage m))) (sym (tells.emptied m i edge) ∙ all i (subst (λ cs. IsEdge cs m i) shows.callees edge))))
      (tells-done s w m me.0 Nowhere shows.sound tells taken) (λ u apart. done-other u w apart ∙ sym (ap (hold_of u) taken ∙ taken-other u w apart)) (b, refl, is)

  -- a full edge is emptied
  pub gives-edge : (plan : Plan P) (slots w c i : ℕ) (me : Me (Slot B) (View P)) → me.0.plan ≡ Some plan → me.0.out ≡ Edge c i → me.1 ≡ (edge_slot (callees_in plan) c i, Cleared) ∷ [] → IsEdge (callees_in plan) c i
      → last_move me.0.moves c ≡ Some Begun → has_edge me.0.emptied c i ≡ false
      → Allows (Rule first finished copied plan) slots w me 0 (λ n. n) (GivesEdge first copied (step slots 0 0 0 none) me)
  gives-edge plan slots w c i me mine lent carried edge begun new t (s, shows) long at fits = (
    cleared me.0 c i,
    gives,
    tt,
    (
      after,
      subst (λ l. Shows first finished copied plan (record { words = words; homes = put_back t.homes l; views = set t.views w (cleared me.0 c i) }) after)
          (sym (carried ∙ ap (λ cs. (edge_slot cs c i, Cleared) ∷ []) (sym shows.callees)))
          (goes first finished copied plan t s after w me.0 (cleared me.0 c i) words shelf shows at (record {
            callees = refl;
            workers = refl;
            sound = take_edge-sound s w c i shows.sound (here, taken, full);
            unput = λ a b there. put_edge_cases (λ x. x.reported ≡ false → x.fill ≡ Empty) c i e s.edge a b (λ same same' un. absurd (true≢false (sym reported ∙ un))) (shows.unput a b there);
            wide = length-set t.words 0 (slice_index t.words 0);
            leaf = ap (λ ws. slice_index ws 0) (set-read t.words 0) ∙ shows.leaf;
            pending = λ a inside. ap (λ ws. slice_index ws (a + 1)) (set-read t.words 0) ∙ shows.pending a inside;
            homes = length-set t.homes (edge_slot s.callees c i) (some Cleared);
            quiet = quiet;
            told = told_by plan plan after w (cleared me.0 c i) me.0.plan mine refl (tells-cleared s w c i e me.0 tells held refl refl);
            shares = refl;
            bodies = λ k inside. body_still first finished copied plan t s after w me.0 (cleared me.0 c i) shelf k shows inside at (λ is. let e : Edge c i ≡ Body k = sym lent ∙ is in absurd (cc)) (λ y old. old)
                (set_else t.homes (edge_slot s.callees c i) k (some Cleared) (λ same. edge_slot-past s.callees c i k inside (sym same))) quiet;
            edges = λ a b there. by_edge a b there (edge-cases c i a b);
          })),
    ),
    λ c' i' is. (let same : Edge c i ≡ Edge c' i' = sym lent ∙ is in let first_same : c ≡ c' = cc in let second_same : i ≡ i' = cc in λ j. (cleared me.0 (first_same j) (second_same j), rest me.1)),
  )
    where
      e : EdgeState
      e = record (s.edge c i) { fill = Emptied }

      after : State
      after = record s { edge = put_edge c i (record (s.edge c i) { fill = Emptied }) s.edge }

      words : List ℕ
      words = set t.words 0 (slice_index t.words 0)

      shelf : List (mathlib.Core.Option.Option (Slot B))
      shelf = set t.homes (edge_slot s.callees c i) (some Cleared)

      tells : Tells s w me.0
      tells = tells-now first finished copied plan t s w me.0 shows mine at

      here : IsEdge s.callees c i
      here = subst (λ cs. IsEdge cs c i) (sym shows.callees) edge

      taken : s.stage c ≡ Taken w
      taken = begun-stage w (s.stage c) (sym (tells.moves c) ∙ begun)

      held : is_held (hold_of w (s.stage c)) ≡ true
      held = ap is_held (sym (tells.moves c) ∙ begun)

      reported : (s.edge c i).reported ≡ true
      reported = reported_unless_waiting s c i shows.sound (ap is_waiting taken) here

      full : (s.edge c i).fill ≡ Full
      full = full-fill (s.edge c i).fill ((shows.sound.reported c i here reported).1) (and-beside (is_emptied (s.edge c i).fill) (is_held (hold_of w (s.stage c))) held (sym (tells.emptied c i here) ∙ new))

      quiet : (u : ℕ) → u ≢ w → Quiet s (record s { edge = put_edge c i (record (s.edge c i) { fill = Emptied }) s.edge }) u
      quiet u apart = let none : is_held (hold_of u (s.stage c)) ≡ false = ap is_held (ap (hold_of u) taken ∙ taken-other u w apart) in
          quiet-edge s c i (record (s.edge c i) { fill = Emptied }) u (none ∙ sym (ap (λ f. is_emptied f && is_held (hold_of u (s.stage c))) full)) refl

      by_edge : (a b : ℕ) → IsEdge s.callees a b → ((a ≡ c) × (b ≡ i)) ⊎ (a ≡ c → b ≡ i → ⊥)
          → Lies (EdgeFits first finished copied plan.pieces (callee s.callees a b) (put_edge c i (record (s.edge c i) { fill = Emptied }) s.edge a b).fill)
          (handles_edge (record s { edge = put_edge c i (record (s.edge c i) { fill = Emptied }) s.edge }) a b) (Edge a b)
          (set t.homes (edge_slot s.callees c i) (some Cleared)) (edge_slot s.callees a b) (set t.views w (cleared me.0 c i))
      by_edge a b there (inl (e1, e2)) =
          subst (λ n. Lies (EdgeFits first finished copied plan.pieces (callee s.callees n b) (put_edge c i (record (s.edge c i) { fill = Emptied }) s.edge n b).fill)
          (handles_edge (record s { edge = put_edge c i (record (s.edge c i) { fill = Emptied }) s.edge }) n b) (Edge n b)
          (set t.homes (edge_slot s.callees c i) (some Cleared)) (edge_slot s.callees n b) (set t.views w (cleared me.0 c i))) (sym e1)
          (subst (λ k. Lies (EdgeFits first finished copied plan.pieces (callee s.callees c k) (put_edge c i (record (s.edge c i) { fill = Emptied }) s.edge c k).fill)
          (handles_edge (record s { edge = put_edge c i (record (s.edge c i) { fill = Emptied }) s.edge }) c k) (Edge c k)
          (set t.homes (edge_slot s.callees c i) (some Cleared)) (edge_slot s.callees c k) (set t.views w (cleared me.0 c i))) (sym e2)
          (home Cleared (set_here t.homes (edge_slot s.callees c i) (some Cleared) (edge-position s.callees (length t.homes) c i shows.homes here))
          (subst (λ z. EdgeFits first finished copied plan.pieces (callee s.callees c i) z.fill Cleared) (sym (put_edge-here c i (record (s.edge c i) { fill = Emptied }) s.edge)) refl)))
      by_edge a b there (inr ne) =
          edge_still first finished copied plan t s after w me.0 (cleared me.0 c i) shelf a b shows there at (λ is. let same : Edge c i ≡ Edge a b = sym lent ∙ is in ne (let x : a ≡ c = cc in x) (let x : b ≡ i = cc in x))
          (put_edge-other c i (record (s.edge c i) { fill = Emptied }) s.edge a b ne) (set_else t.homes (edge_slot s.callees c i) (edge_slot s.callees a b) (some Cleared) (edge_slot-apart s.callees c i a b here there ne)) quiet
