-- A draw of a leaf keeps the rule.
use Rattle.std.proofs.Common.{◌≡◌, ◌≢◌, ℕ, ◌+◌, ◌-◌, ◌%◌, ◌<◌, ◌≤◌, true, false, List, length, set, Option, Some, None, slice_index, slice_get, refl, sym, ap, subst, ◌∙◌, length-set, get_or-set_same, get_or-set_other, mod-eq_of_lt, arith}
use mathlib.Core.Option.{some, none}
use lib.ListN.{get_elem?}
use Rattle.atomic_table.specs.Table as table
use Rattle.atomic_table.specs.Table.{Me, Act, keeps, Valid, Allows, stepped, step, carried_after}
use Rattle.sched_core.specs.declared.parts.Stage.TheVariants.{Waiting, Owed}
use Rattle.sched_core.specs.Sums.{one_if, put}
use Rattle.sched_core.specs.State.{State, leaves, IsThere}
use Rattle.sched_core.specs.Events.{draw_leaf}
use Rattle.sched_core.specs.Sound.{Sound, passed_workers}
use Rattle.sched_core.proofs.SumLemmas.{sum_below-le, one_if-le}
use Rattle.sched_core.proofs.Puts.{put-here, put-other, put_cases}
use Rattle.std.specs.Prelude.{IfSome}
use Rattle.sched_core.proofs.LeafNumbers.{leaf-lt}
use Rattle.sched_core.proofs.Shapes.{leaves_from-le}
use Rattle.sched_core.proofs.Draws.{claim-sound, next_leaf-waits, is_Waiting}
use Rattle.shared_schedule.specs.declared.plan.Plan.{Plan}
use Rattle.shared_schedule.specs.declared.slot.Slot.{Slot}
use Rattle.shared_schedule.specs.declared.view.TableSlot.TheVariants.{Nowhere, Body, Edge}
use Rattle.shared_schedule.specs.declared.view.View.{View}
use Rattle.shared_schedule.specs.Views.{callees_in, hold_of, Tells}
use Rattle.shared_schedule.specs.Rule.{BodyFits, Shows, Rule}
use Rattle.shared_schedule.specs.Plays.{drawn, Draws}
use Rattle.shared_schedule.proofs.Lookups.{position-lt}
use Rattle.shared_schedule.proofs.Staying.{Quiet, tells_still, tells_of, told_by, body_still, edge_still, goes}
use Rattle.shared_schedule.proofs.Stages.{owed-other, quiet-stage, tells-owed}

-- the draws are few
leaf-room : (s : State) → Sound s → s.leaf ≤ length s.callees + 64
leaf-room s sound =
    let some : length (leaves s.callees) ≤ length s.callees = leaves_from-le 0 s.callees in
    let past : passed_workers s ≡ s.leaf - length (leaves s.callees) = sound.past in
    let most : passed_workers s ≤ s.workers = sum_below-le s.workers (λ w. one_if (s.worker w).passed) (λ w. one_if-le (s.worker w).passed) in
    let few : s.workers ≤ 64 = sound.few in
    omega arith

-- a leaf that is drawn is a module
pub leaf-within : (callees : List (List ℕ)) (n : ℕ) (drawn : Option ℕ) → drawn ≡ slice_get (leaves callees) n → IfSome drawn (λ m. m < length callees)
leaf-within callees n (Some m) is = leaf-lt callees n m (sym is)
leaf-within callees n None is = tt

-- no slot is out
pub nowhere-body : {P : Type 0} (v : View P) (m : ℕ) → v.out ≡ Nowhere → v.out ≡ Body m → ⊥
nowhere-body v m idle is = cc

pub nowhere-edge : {P : Type 0} (v : View P) (c i : ℕ) → v.out ≡ Nowhere → v.out ≡ Edge c i → ⊥
nowhere-edge v c i idle is = cc

module _ {P B : Type 0} (first finished : P → ℕ → B → Type 0) (copied : P → ℕ → Option B → Type 0) where
  -- a step that can be made from this table
  abbrev pub Next : (plan : Plan P) (t : table.State (Slot B) (View P)) (w : ℕ) (me : Me (Slot B) (View P)) (i n new : ℕ) (then : ℕ → Me (Slot B) (View P) → Type 0) → Type 0
  Next plan t w me i n new then = (v : View P) × (a : Act (Slot B)) × Valid t.homes me.1 a × Rule first finished copied plan (stepped t i new w me.1 v a) × then n (v, carried_after me.1 a)

  -- the words after a step on word 0
  pub leaf-words : (plan : Plan P) (t : table.State (Slot B) (View P)) (s : State) (n : ℕ) → Shows first finished copied plan t s → slice_index (set t.words 0 n) 0 ≡ n
  leaf-words plan t s n shows = get_or-set_same t.words 0 n 0 (omega (arith, shows.wide))

  pub pending-words : (plan : Plan P) (t : table.State (Slot B) (View P)) (s : State) (n c : ℕ) → Shows first finished copied plan t s → c < length s.callees → slice_index (set t.words 0 n) (c + 1) ≡ s.pending_edges c
  pending-words plan t s n c shows within = get_or-set_other t.words 0 (c + 1) n 0 (λ same. omega arith) ∙ shows.pending c within

  -- the view of a worker that makes a step
  pub tells-now : (plan : Plan P) (t : table.State (Slot B) (View P)) (s : State) (w : ℕ) (v : View P) → Shows first finished copied plan t s → v.plan ≡ Some plan → get_elem? t.views w ≡ some v → Tells s w v
  tells-now plan t s w v shows mine at = (tells_of plan plan s w v v.plan mine (shows.told w v at)).1

  -- the worker is there
  pub there-now : (plan : Plan P) (t : table.State (Slot B) (View P)) (s : State) (w : ℕ) (v : View P) → Shows first finished copied plan t s → v.plan ≡ Some plan → get_elem? t.views w ≡ some v → IsThere s w
  there-now plan t s w v shows mine at = ((let below : w < length t.views = position-lt t.views w v at in omega (arith, shows.come)), (tells-now plan t s w v shows mine at).here)

  pub draws : (plan : Plan P) (slots w : ℕ) (me : Me (Slot B) (View P)) → me.0.plan ≡ Some plan → me.0.passed ≡ false → me.0.out ≡ Nowhere
      → Allows (Rule first finished copied plan) slots w me 0 (λ n. (n + 1) % 18446744073709551616) (Draws first copied (step slots 0 1 0 none) me)
  draws plan slots w me mine unpassed idle t (s, shows) long at fits = go (slice_get (leaves s.callees) s.leaf) refl
    where
      n : ℕ
      n = slice_index t.words 0

      tells : Tells s w me.0
      tells = tells-now plan t s w me.0 shows mine at

      sound : Sound (draw_leaf s w (slice_get (leaves s.callees) s.leaf))
      sound = claim-sound s w shows.sound (there-now plan t s w me.0 shows mine at, sym tells.passed ∙ unpassed)

      word : (n + 1) % 18446744073709551616 ≡ s.leaf + 1
      word = mod-eq_of_lt (let most : s.leaf ≤ length s.callees + 64 = leaf-room s shows.sound in let few : length s.callees < 4294967296 = shows.lists.modules in omega (arith, shows.leaf))
          ∙ ap (λ k. k + 1) shows.leaf

      told : (o : Option ℕ) → slice_get (leaves s.callees) s.leaf ≡ o → Draws first copied (step slots 0 1 0 none) me n (drawn me.0 o, me.1)
      told o is plan' mine' =
          let same : plan ≡ plan' = (let e : Some plan ≡ Some plan' = sym mine ∙ mine' in cc) in
          let turn : o ≡ slice_get (leaves (callees_in plan')) n = sym is ∙ ap (λ cs. slice_get (leaves cs) s.leaf) (shows.callees ∙ ap callees_in same) ∙ ap (slice_get (leaves (callees_in plan'))) (sym shows.leaf) in
          (ap (λ d. (drawn me.0 d, me.1)) turn, λ m here. tells.moves m ∙ ap (hold_of w) (is_Waiting (s.stage m) (next_leaf-waits s m shows.sound (is ∙ turn ∙ here))))

      go : (o : Option ℕ) → slice_get (leaves s.callees) s.leaf ≡ o → Next plan t w me 0 n ((n + 1) % 18446744073709551616) (Draws first copied (step slots 0 1 0 none) me)
      go (Some m) is = (
        drawn me.0 (Some m),
        keeps,
        tt,
        (
          after,
          goes first finished copied plan t s after w me.0 (drawn me.0 (Some m)) (set t.words 0 ((n + 1) % 18446744073709551616)) t.homes shows at (record {
            callees = refl;
            workers = refl;
            sound = subst (λ o. Sound (draw_leaf s w o)) is sound;
            unput = shows.unput;
            wide = length-set t.words 0 ((n + 1) % 18446744073709551616);
            leaf = leaf-words plan t s ((n + 1) % 18446744073709551616) shows ∙ word;
            pending = λ c within. pending-words plan t s ((n + 1) % 18446744073709551616) c shows within;
            homes = refl;
            quiet = quiet;
            told = told_by plan plan after w (drawn me.0 (Some m)) me.0.plan mine refl (tells_still (record s { stage = put m (Owed w) s.stage }) after w (drawn me.0 (Some m)) refl
                (record { holds = λ k. refl; emptied = λ c i here. refl; told = λ c i here. refl; worker = refl; splits = λ here. refl })
                (tells-owed s w m me.0 me.0.out shows.sound tells waits));
            shares = refl;
            bodies = λ k within. body_still first finished copied plan t s after w me.0 (drawn me.0 (Some m)) t.homes k shows within at (nowhere-body me.0 k idle) (fits_still k) refl quiet;
            edges = λ c i here. edge_still first finished copied plan t s after w me.0 (drawn me.0 (Some m)) t.homes c i shows here at (nowhere-edge me.0 c i idle) refl refl quiet;
          }),
        ),
        told (Some m) is,
      )
        where
          after : State
          after = draw_leaf s w (Some m)

          waits : s.stage m ≡ Waiting
          waits = is_Waiting (s.stage m) (next_leaf-waits s m shows.sound is)

          quiet : (u : ℕ) → u ≢ w → Quiet s (draw_leaf s w (Some m)) u
          quiet u apart = let q = quiet-stage s m (Owed w) u (owed-other u w apart ∙ ap (hold_of u) (sym waits)) in
              record { holds = q.holds; emptied = q.emptied; told = q.told; worker = refl; splits = λ here. refl }

          fits_still : (k : ℕ) (y : Slot B) → BodyFits first finished copied plan.pieces k (s.stage k) y → BodyFits first finished copied plan.pieces k (put m (Owed w) s.stage k) y
          fits_still k y fit = put_cases (λ x. BodyFits first finished copied plan.pieces k x y) m (Owed w) s.stage k
              (λ here. subst (λ x. BodyFits first finished copied plan.pieces k x y) (ap s.stage here ∙ waits) fit) (λ other. fit)
      go None is = (
        drawn me.0 None,
        keeps,
        tt,
        (
          after,
          goes first finished copied plan t s after w me.0 (drawn me.0 None) (set t.words 0 ((n + 1) % 18446744073709551616)) t.homes shows at (record {
            callees = refl;
            workers = refl;
            sound = subst (λ o. Sound (draw_leaf s w o)) is sound;
            unput = shows.unput;
            wide = length-set t.words 0 ((n + 1) % 18446744073709551616);
            leaf = leaf-words plan t s ((n + 1) % 18446744073709551616) shows ∙ word;
            pending = λ c within. pending-words plan t s ((n + 1) % 18446744073709551616) c shows within;
            homes = refl;
            quiet = quiet;
            told = told_by plan plan after w (drawn me.0 None) me.0.plan mine refl (record {
              moves = tells.moves;
              once = tells.once;
              emptied = tells.emptied;
              told = tells.told;
              passed = sym (ap (λ x. x.passed) (put-here w (record (s.worker w) { passed = true }) s.worker));
              here = ap (λ x. x.gone) (put-here w (record (s.worker w) { passed = true }) s.worker) ∙ tells.here;
              splits = tells.splits;
              shares = tells.shares;
            });
            shares = refl;
            bodies = λ k within. body_still first finished copied plan t s after w me.0 (drawn me.0 None) t.homes k shows within at (nowhere-body me.0 k idle) (λ y fit. fit) refl quiet;
            edges = λ c i here. edge_still first finished copied plan t s after w me.0 (drawn me.0 None) t.homes c i shows here at (nowhere-edge me.0 c i idle) refl refl quiet;
          }),
        ),
        told None is,
      )
        where
          after : State
          after = draw_leaf s w None

          quiet : (u : ℕ) → u ≢ w → Quiet s (draw_leaf s w None) u
          quiet u apart = record { holds = λ k. refl; emptied = λ c i here. refl; told = λ c i here. refl; worker = put-other w (record (s.worker w) { passed = true }) s.worker u apart; splits = λ here. refl }
