-- An edge is reported, with a copy put on it: that keeps the rule.
use Rattle.std.proofs.Common.{◌≡◌, ◌≢◌, ℕ, zero, suc, ◌+◌, ◌-◌, ◌%◌, ◌<◌, ◌⊎◌, true, false, ◌&&◌, List, [], ◌∷◌, length, set, Option, Some, slice_index, refl, sym, ap, subst, ◌∙◌, inl, inr}
use Rattle.std.proofs.Common.{length-set, get_or-set_same, get_or-set_other, mod-eq_of_lt, arith}
use Rattle.std.specs.Prelude.{◌==◌}
use Rattle.std.proofs.lemmas.Bool.{true≢false, cases_eq, eq-eqb, ne_eqb, cond-true, cond-false}
use native.Mathlib.Nat.{add-mod_right}
use mathlib.Core.Option.{some, none}
use lib.ListN.{get_elem?}
use Rattle.atomic_table.specs.Table.{Me, gives, Allows, step, rest, put_back}
use Rattle.atomic_table.proofs.Lists.{set_here, set_else}
use Rattle.sched_core.specs.declared.parts.Stage.{Stage}
use Rattle.sched_core.specs.declared.parts.Stage.TheVariants.{Waiting, Owed, Done}
use Rattle.sched_core.specs.declared.parts.Fill.TheVariants.{Empty, Full}
use Rattle.sched_core.specs.declared.parts.Edge.{Edge as EdgeState}
use Rattle.sched_core.specs.declared.event.Event.TheVariants.{PutEdge}
use Rattle.sched_core.specs.Sums.{put}
use Rattle.sched_core.specs.State.{State, callee, IsEdge, is_emptied}
use Rattle.sched_core.specs.Events.{step as step_of, stages_after_report}
use Rattle.sched_core.specs.Sound.{Sound}
use Rattle.sched_core.proofs.EdgeSums.{edge_within}
use Rattle.sched_core.proofs.Puts.{put-here, put-other, put_cases, put_keeps}
use Rattle.sched_core.proofs.Edges.{put_edge, put_edge_cases, put_edge-sound}
use Rattle.sched_core.proofs.Draws.{is_Waiting}
use Rattle.sched_core.proofs.Reports.{report-sound, pending_edges-positive, unreported-waits}
use Rattle.shared_schedule.specs.declared.plan.Plan.{Plan}
use Rattle.shared_schedule.specs.declared.slot.Slot.{Slot}
use Rattle.shared_schedule.specs.declared.slot.Slot.TheVariants.{Copied}
use Rattle.shared_schedule.specs.declared.view.Hold.TheVariants.{Due, Over}
use Rattle.shared_schedule.specs.declared.view.TableSlot.TheVariants.{Nowhere, Body, Edge}
use Rattle.shared_schedule.specs.declared.view.View.{View}
use Rattle.shared_schedule.specs.Views.{callees_in, last_move, hold_of, is_held, is_over, has_edge, Tells}
use Rattle.shared_schedule.specs.Rule.{edge_slot, handles_edge, Lies, home, BodyFits, EdgeFits, Shows, Rule}
use Rattle.shared_schedule.specs.Plays.{reported, Reports}
use Rattle.shared_schedule.proofs.Staying.{Quiet, tells_still, told_by, body_still, edge_still, goes}
use Rattle.shared_schedule.proofs.Stages.{over-stage, owed-other, done-other, tells-owed}
use Rattle.shared_schedule.proofs.Drawing.{Next, tells-now}
use Rattle.shared_schedule.proofs.Positions.{edge_slot-past, edge_slot-apart, edge-cases, put_edge-here, put_edge-other}
use Rattle.shared_schedule.proofs.Filling.{quiet-edge, tells-told}
use Rattle.shared_schedule.proofs.Lending.{and-beside}
use Rattle.shared_schedule.proofs.Giving.{edge-position}

-- a reported edge with a copy on it
abbrev pub full_edge : EdgeState
full_edge = record { fill = Full; reported = true }

-- the state after the copy was put and the edge reported, where so many edges of the caller are left
abbrev pub told_state : State → ℕ → ℕ → ℕ → ℕ → State
told_state s w c i left = record s { edge = put_edge c i full_edge s.edge; pending_edges = put c left s.pending_edges; stage = stages_after_report left w c s.stage }

-- the word falls by one
pub one-less : (n p : ℕ) → n < 18446744073709551616 → n ≡ p → 0 < p → (n + 18446744073709551615) % 18446744073709551616 ≡ p - 1
one-less n p fits same positive =
    let e : n + 18446744073709551615 ≡ (p - 1) + 18446744073709551616 = omega arith in
    ap (λ k. k % 18446744073709551616) e ∙ add-mod_right (p - 1) 18446744073709551616 ∙ mod-eq_of_lt (omega arith)

-- both events, of which each may come
pub told-sound : (s : State) (w c i : ℕ) → Sound s → IsEdge s.callees c i → s.stage (callee s.callees c i) ≡ Done w → (s.edge c i).fill ≡ Empty → (s.edge c i).reported ≡ false
    → Sound (told_state s w c i (s.pending_edges c - 1))
told-sound s w c i sound at done empty unreported =
    subst (λ edge. Sound (record s { edge = edge; pending_edges = put c (s.pending_edges c - 1) s.pending_edges; stage = stages_after_report (s.pending_edges c - 1) w c s.stage })) (λ j a b. same a b j)
    (report-sound (step_of s (PutEdge w c i)) w c i (put_edge-sound s w c i sound (at, done, empty)) (at, done, ap (λ x. x.fill) (put_edge-here c i filled s.edge), ap (λ x. x.reported) (put_edge-here c i filled s.edge) ∙ unreported))
  where
    filled : EdgeState
    filled = record (s.edge c i) { fill = Full }

    twice : ℕ → ℕ → EdgeState
    twice = put_edge c i (record (put_edge c i (record (s.edge c i) { fill = Full }) s.edge c i) { reported = true }) (put_edge c i (record (s.edge c i) { fill = Full }) s.edge)

    same : (a b : ℕ) → put_edge c i (record (put_edge c i (record (s.edge c i) { fill = Full }) s.edge c i) { reported = true }) (put_edge c i (record (s.edge c i) { fill = Full }) s.edge) a b ≡ put_edge c i full_edge s.edge a b
    same a b = by_edge (edge-cases c i a b)
      where
        by_edge : ((a ≡ c) × (b ≡ i)) ⊎ (a ≡ c → b ≡ i → ⊥)
            → put_edge c i (record (put_edge c i (record (s.edge c i) { fill = Full }) s.edge c i) { reported = true }) (put_edge c i (record (s.edge c i) { fill = Full }) s.edge) a b ≡ put_edge c i full_edge s.edge a b
        by_edge (inl (e1, e2)) = (λ j. twice (e1 j) (e2 j)) ∙ put_edge-here c i (record (put_edge c i filled s.edge c i) { reported = true }) (put_edge c i filled s.edge)
            ∙ ap (λ (x : EdgeState). record x { reported = true }) (put_edge-here c i filled s.edge) ∙ sym (put_edge-here c i full_edge s.edge) ∙ (λ j. put_edge c i full_edge s.edge (sym e1 j) (sym e2 j))
        by_edge (inr ne) = put_edge-other c i (record (put_edge c i filled s.edge c i) { reported = true }) (put_edge c i filled s.edge) a b ne ∙ put_edge-other c i filled s.edge a b ne
            ∙ sym (put_edge-other c i full_edge s.edge a b ne)

module _ {P B : Type 0} (first finished : P → ℕ → B → Type 0) (copied : P → ℕ → Option B → Type 0) where
  pub reports : (plan : Plan P) (slots w c i : ℕ) (me : Me (Slot B) (View P)) (o : Option B) → me.0.plan ≡ Some plan → me.0.out ≡ Edge c i → me.1 ≡ (edge_slot (callees_in plan) c i, Copied o) ∷ []
      → IsEdge (callees_in plan) c i → last_move me.0.moves (callee (callees_in plan) c i) ≡ Some Over → has_edge me.0.told c i ≡ false → copied plan.pieces (callee (callees_in plan) c i) o
      → Allows (Rule first finished copied plan) slots w me (c + 1) (λ n. (n + 18446744073709551615) % 18446744073709551616) (Reports first copied (step slots (c + 1) 1 0 none) me)
  reports plan slots w c i me o mine lent carried edge over new copy t (s, shows) long at fits = go (s.pending_edges c - 1) refl
    where
      n : ℕ
      n = slice_index t.words (c + 1)

      here : IsEdge s.callees c i
      here = subst (λ cs. IsEdge cs c i) (sym shows.callees) edge

      within : c < length s.callees
      within = edge_within s.callees c i here

      tells : Tells s w me.0
      tells = tells-now first finished copied plan t s w me.0 shows mine at

      move : last_move me.0.moves (callee s.callees c i) ≡ Some Over
      move = ap (λ cs. last_move me.0.moves (callee cs c i)) shows.callees ∙ over

      done : s.stage (callee s.callees c i) ≡ Done w
      done = over-stage w (s.stage (callee s.callees c i)) (sym (tells.moves (callee s.callees c i)) ∙ move)

      over-now : is_over (hold_of w (s.stage (callee s.callees c i))) ≡ true
      over-now = ap is_over (sym (tells.moves (callee s.callees c i)) ∙ move)

      unreported : (s.edge c i).reported ≡ false
      unreported = and-beside (s.edge c i).reported (is_over (hold_of w (s.stage (callee s.callees c i)))) over-now (sym (tells.told c i here) ∙ new)

      empty : (s.edge c i).fill ≡ Empty
      empty = shows.unput c i here unreported

      waits : s.stage c ≡ Waiting
      waits = is_Waiting (s.stage c) (unreported-waits s c i shows.sound here unreported)

      some_left : 0 < s.pending_edges c
      some_left = pending_edges-positive s c i shows.sound here unreported

      word : (n + 18446744073709551615) % 18446744073709551616 ≡ s.pending_edges c - 1
      word = one-less n (s.pending_edges c) fits (shows.pending c within) some_left

      apart : callee s.callees c i ≢ c
      apart same = let e : Done w ≡ Waiting = sym done ∙ ap s.stage same ∙ waits in absurd (cc)

      -- what the stages after it have to be
      goes-by : (left : ℕ) (stage : ℕ → Stage) → s.pending_edges c - 1 ≡ left
          → let after : State = record s { edge = put_edge c i full_edge s.edge; pending_edges = put c left s.pending_edges; stage = stage } in
          Sound after → Tells after w (reported me.0 c i (n == 1)) → ((u : ℕ) → u ≢ w → (k : ℕ) → hold_of u (stage k) ≡ hold_of u (s.stage k))
          → ((k : ℕ) (y : Slot B) → BodyFits first finished copied plan.pieces k (s.stage k) y → BodyFits first finished copied plan.pieces k (stage k) y)
          → Next first finished copied plan t w me (c + 1) n ((n + 18446744073709551615) % 18446744073709551616) (Reports first copied (step slots (c + 1) 1 0 none) me)
      goes-by left stage is sound tells-after others stays = (
        reported me.0 c i (n == 1),
        gives,
        tt,
        (
          after,
          subst (λ l. Shows first finished copied plan (record { words = words; homes = put_back t.homes l; views = set t.views w (reported me.0 c i (n == 1)) }) after)
              (sym (carried ∙ ap (λ cs. (edge_slot cs c i, Copied o) ∷ []) (sym shows.callees)))
              (goes first finished copied plan t s after w me.0 (reported me.0 c i (n == 1)) words shelf shows at (record {
                callees = refl;
                workers = refl;
                sound = sound;
                unput = λ a b there. put_edge_cases (λ x. x.reported ≡ false → x.fill ≡ Empty) c i full_edge s.edge a b (λ same same' un. absurd (true≢false un)) (shows.unput a b there);
                wide = length-set t.words (c + 1) new_word;
                leaf = get_or-set_other t.words (c + 1) 0 new_word 0 (λ same. omega arith) ∙ shows.leaf;
                pending = λ a inside. pending-word a inside (cases_eq a c);
                homes = length-set t.homes (edge_slot s.callees c i) (some (Copied o));
                quiet = quiet;
                told = told_by plan plan after w (reported me.0 c i (n == 1)) me.0.plan mine refl tells-after;
                shares = refl;
                bodies = λ k inside. body_still first finished copied plan t s after w me.0 (reported me.0 c i (n == 1)) shelf k shows inside at (λ is. let e : Edge c i ≡ Body k = sym lent ∙ is in absurd (cc)) (stays k)
                    (set_else t.homes (edge_slot s.callees c i) k (some (Copied o)) (λ same. edge_slot-past s.callees c i k inside (sym same))) quiet;
                edges = λ a b there. by_edge a b there (edge-cases c i a b);
              })),
        ),
        told,
      )
        where
          after : State
          after = record s { edge = put_edge c i full_edge s.edge; pending_edges = put c left s.pending_edges; stage = stage }

          new_word : ℕ
          new_word = (n + 18446744073709551615) % 18446744073709551616

          words : List ℕ
          words = set t.words (c + 1) ((n + 18446744073709551615) % 18446744073709551616)

          shelf : List (mathlib.Core.Option.Option (Slot B))
          shelf = set t.homes (edge_slot s.callees c i) (some (Copied o))

          quiet : (u : ℕ) → u ≢ w → Quiet s (record s { edge = put_edge c i full_edge s.edge; pending_edges = put c left s.pending_edges; stage = stage }) u
          quiet u ne =
              let none : is_over (hold_of u (s.stage (callee s.callees c i))) ≡ false = ap is_over (ap (hold_of u) done ∙ done-other u w ne) in
              let q = quiet-edge s c i full_edge u (sym (ap (λ f. is_emptied f && is_held (hold_of u (s.stage c))) empty)) (none ∙ sym (ap (λ r. r && is_over (hold_of u (s.stage (callee s.callees c i)))) unreported)) in
              record {
                holds = others u ne;
                emptied = λ a b there. ap (λ h. is_emptied (put_edge c i full_edge s.edge a b).fill && is_held h) (others u ne a) ∙ q.emptied a b there;
                told = λ a b there. ap (λ h. (put_edge c i full_edge s.edge a b).reported && is_over h) (others u ne (callee s.callees a b)) ∙ q.told a b there;
                worker = refl;
                splits = λ first_one. refl;
              }

          pending-word : (a : ℕ) → a < length s.callees → (a ≡ c) ⊎ (a ≢ c) → slice_index (set t.words (c + 1) ((n + 18446744073709551615) % 18446744073709551616)) (a + 1) ≡ put c left s.pending_edges a
          pending-word a inside (inl e) =
              subst (λ k. slice_index (set t.words (c + 1) ((n + 18446744073709551615) % 18446744073709551616)) (k + 1) ≡ put c left s.pending_edges k) (sym e)
              (get_or-set_same t.words (c + 1) new_word 0 (omega (arith, shows.wide)) ∙ word ∙ is ∙ sym (put-here c left s.pending_edges))
          pending-word a inside (inr ne) =
              get_or-set_other t.words (c + 1) (a + 1) new_word 0 (λ same. ne (omega arith)) ∙ shows.pending a inside ∙ sym (put-other c left s.pending_edges a ne)

          by_edge : (a b : ℕ) → IsEdge s.callees a b → ((a ≡ c) × (b ≡ i)) ⊎ (a ≡ c → b ≡ i → ⊥)
              → Lies (EdgeFits first finished copied plan.pieces (callee s.callees a b) (put_edge c i full_edge s.edge a b).fill)
              (handles_edge (record s { edge = put_edge c i full_edge s.edge; pending_edges = put c left s.pending_edges; stage = stage }) a b) (Edge a b)
              (set t.homes (edge_slot s.callees c i) (some (Copied o))) (edge_slot s.callees a b) (set t.views w (reported me.0 c i (n == 1)))
          by_edge a b there (inl (e1, e2)) = home (Copied o)
              (ap (get_elem? shelf) (λ j. edge_slot s.callees (e1 j) (e2 j)) ∙ set_here t.homes (edge_slot s.callees c i) (some (Copied o)) (edge-position s.callees (length t.homes) c i shows.homes here))
              (subst (λ z. EdgeFits first finished copied plan.pieces (callee s.callees a b) z.fill (Copied o)) (sym ((λ j. put_edge c i full_edge s.edge (e1 j) (e2 j)) ∙ put_edge-here c i full_edge s.edge))
              (o, refl, subst (λ k. copied plan.pieces k o) (ap (λ cs. callee cs c i) (sym shows.callees) ∙ (λ j. callee s.callees (sym e1 j) (sym e2 j))) copy))
          by_edge a b there (inr ne) =
              edge_still first finished copied plan t s after w me.0 (reported me.0 c i (n == 1)) shelf a b shows there at (λ is. let same : Edge c i ≡ Edge a b = sym lent ∙ is in ne (let x : a ≡ c = cc in x) (let x : b ≡ i = cc in x))
              (put_edge-other c i full_edge s.edge a b ne) (set_else t.homes (edge_slot s.callees c i) (edge_slot s.callees a b) (some (Copied o)) (edge_slot-apart s.callees c i a b here there ne)) quiet

          told : Reports first copied (step slots (c + 1) 1 0 none) me n (reported me.0 c i (n == 1), rest me.1)
          told c' i' is' = let same : Edge c i ≡ Edge c' i' = sym lent ∙ is' in let e1 : c ≡ c' = cc in let e2 : i ≡ i' = cc in (λ j. (reported me.0 (e1 j) (e2 j) (n == 1), rest me.1))

      go : (left : ℕ) → s.pending_edges c - 1 ≡ left → Next first finished copied plan t w me (c + 1) n ((n + 18446744073709551615) % 18446744073709551616) (Reports first copied (step slots (c + 1) 1 0 none) me)
      go zero is = goes-by zero (put c (Owed w) s.stage) is (subst (λ l. Sound (told_state s w c i l)) is (told-sound s w c i shows.sound here done empty unreported))
          (tells_still (record s { stage = put c (Owed w) s.stage; edge = put_edge c i full_edge s.edge }) (told_state s w c i 0) w (reported me.0 c i (n == 1)) refl
          (record { holds = λ k. refl; emptied = λ a b there. refl; told = λ a b there. refl; worker = refl; splits = λ first_one. refl })
          (subst (λ ms. Tells (record s { stage = put c (Owed w) s.stage; edge = put_edge c i full_edge s.edge }) w (record me.0 { moves = ms; told = (c, i) ∷ me.0.told; out = Nowhere }))
          (sym (cond-true (n == 1) ((c, Due) ∷ me.0.moves) me.0.moves (eq-eqb n 1 (omega (arith, shows.pending c within, some_left, is)))))
          (tells-told (record s { stage = put c (Owed w) s.stage }) w c i full_edge (record me.0 { moves = (c, Due) ∷ me.0.moves; out = Nowhere })
          (tells-owed s w c me.0 Nowhere shows.sound tells waits) (ap (λ x. is_over (hold_of w x)) (put-other c (Owed w) s.stage (callee s.callees c i) apart) ∙ over-now) (sym (ap is_emptied empty)) refl)))
          (λ u ne. put_keeps (hold_of u) c (Owed w) s.stage (owed-other u w ne ∙ sym (ap (hold_of u) waits)))
          (λ k y fit. put_cases (λ x. BodyFits first finished copied plan.pieces k x y) c (Owed w) s.stage k
          (λ same. subst (λ x. BodyFits first finished copied plan.pieces k x y) (ap s.stage same ∙ waits) fit) (λ other. fit))
      go (suc left) is = goes-by (suc left) s.stage is (subst (λ l. Sound (told_state s w c i l)) is (told-sound s w c i shows.sound here done empty unreported))
          (tells_still (record s { edge = put_edge c i full_edge s.edge }) (told_state s w c i (suc left)) w (reported me.0 c i (n == 1)) refl
          (record { holds = λ k. refl; emptied = λ a b there. refl; told = λ a b there. refl; worker = refl; splits = λ first_one. refl })
          (subst (λ ms. Tells (record s { edge = put_edge c i full_edge s.edge }) w (record me.0 { moves = ms; told = (c, i) ∷ me.0.told; out = Nowhere }))
          (sym (cond-false (n == 1) ((c, Due) ∷ me.0.moves) me.0.moves (ne_eqb n 1 (λ one. omega (arith, shows.pending c within, is)))))
          (tells-told s w c i full_edge me.0 tells over-now (sym (ap is_emptied empty)) refl)))
          (λ u ne k. refl)
          (λ k y fit. fit)
