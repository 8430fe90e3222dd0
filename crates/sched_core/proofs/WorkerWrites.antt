-- The writes by which a worker draws past the leaves, comes or goes.
use Rattle.std.proofs.Common.{◌≡◌, ◌≢◌, ℕ, ◌+◌, ◌<◌, ◌≤◌, ◌⊎◌, true, false, List, length, set, get_or, map, None, slice_get, refl, sym, ap, subst, ◌∙◌, inl, inr, arith}
use Rattle.std.specs.Prelude.{◌==◌}
use Rattle.std.proofs.lemmas.Bool.{true≢false, ne_eqb, cond-false, cases_lt}
use Rattle.std.proofs.lemmas.List.{length-set, length-map, get_or-map, get_or-set_same, get_or-set_other}
use mathlib.Core.Path.{fun_ext}
use Rattle.sched_core.specs.declared.parts.Stage.{Stage}
use Rattle.sched_core.specs.declared.parts.Stage.TheVariants.{Waiting, Owed, Taken, Done}
use Rattle.sched_core.specs.declared.parts.Worker.{Worker}
use Rattle.sched_core.specs.declared.event.Event.TheVariants.{Claim, Split, Join}
use Rattle.sched_core.specs.Sums.{put}
use Rattle.sched_core.specs.State.{State, leaves, new_worker, no_worker}
use Rattle.sched_core.specs.Events.{May, step, draw_leaf, reassign}
use Rattle.sched_core.specs.Counts.{busy_of, untold_of}
use Rattle.sched_core.specs.Table.{Table, state_of, stage_with_heirs, heir_after, HasPositions, IsKept}
use Rattle.sched_core.proofs.Puts.{put_keeps}
use Rattle.sched_core.proofs.Busy.{busy-reassign}
use Rattle.sched_core.proofs.Untold.{untold-reassign}
use Rattle.sched_core.proofs.Reading.{get_or-past, part-set, parts-set}
use Rattle.sched_core.proofs.Tested.{there-lt}
use Rattle.sched_core.proofs.Shapes.{Writes, counted}

-- the state after another worker
pub state-worker : (t : Table) (w : ℕ) (x : Worker) → w < length t.workers → state_of (record t { workers = set t.workers w x }) ≡ record (state_of t) { worker = put w x (state_of t).worker }
state-worker t w x within = ap (λ f. record (state_of t) { worker = f }) (parts-set (λ y. y) no_worker t.workers w x within)

-- the tables with other workers and heirs, another number of draws and of splits
workers-positions : (t : Table) (workers : List Worker) (heirs : List ℕ) (leaf splits : ℕ) → length workers ≡ 64 → length heirs ≡ 64 → HasPositions t
    → HasPositions (record t { workers = workers; heirs = heirs; leaf = leaf; splits = splits })
workers-positions t workers heirs leaf splits size many positions = record {
  stages = positions.stages;
  edges = positions.edges;
  rows = positions.rows;
  pending_edges = positions.pending_edges;
  uses = positions.uses;
  workers = size;
  heirs = many;
  busy = positions.busy;
  untold = positions.untold;
  modules = positions.modules;
  entries = positions.entries;
}

pub pass-writes : (t : Table) (w : ℕ) (old : Worker) → IsKept t → May (state_of t) (Claim w) → slice_get (leaves t.callees) t.leaf ≡ None → old ≡ (state_of t).worker w
    → Writes t (record t { workers = set t.workers w (record old { passed = true }); leaf = t.leaf + 1 }) (Claim w)
pass-writes t w old kept may drawn is = subst (λ y. Writes t (record t { workers = set t.workers w (record y { passed = true }); leaf = t.leaf + 1 }) (Claim w)) (sym is)
    (counted t (record t { workers = set t.workers w passing; leaf = t.leaf + 1 }) (Claim w) kept may (record {
      positions = workers-positions t (set t.workers w passing) t.heirs (t.leaf + 1) t.splits (length-set t.workers w passing ∙ kept.positions.workers) kept.positions.heirs kept.positions;
      state = ap (λ (s : State). record s { leaf = t.leaf + 1 }) (state-worker t w passing within) ∙ is_claim;
      leaf_modules = kept.leaf_modules;
      uses = kept.uses;
      own = λ v below stays. kept.own v below (λ come. sym (part-set (λ y. y.gone) no_worker t.workers w passing within v ∙ put_keeps (λ b. b) w passing.gone (λ j. (get_or t.workers j no_worker).gone) refl v) ∙ stays come);
      busy = λ v below. kept.busy v below ∙ ap (λ s. busy_of s v) is_claim;
      untold = λ v below. kept.untold v below ∙ ap (λ s. untold_of s v) is_claim;
    }))
  where
    passing : Worker
    passing = record ((state_of t).worker w) { passed = true }

    within : w < length t.workers
    within = let few : w < 64 = there-lt t w kept may.0 in let size : length t.workers ≡ 64 = kept.positions.workers in omega arith

    is_claim : draw_leaf (state_of t) w None ≡ step (state_of t) (Claim w)
    is_claim = ap (draw_leaf (state_of t) w) (sym drawn)

pub split-writes : (t : Table) → IsKept t → May (state_of t) Split → Writes t (record t { splits = t.splits + 1; workers = set t.workers (t.splits + 1) new_worker }) Split
split-writes t kept may = counted t (record t { splits = t.splits + 1; workers = set t.workers (t.splits + 1) new_worker }) Split kept may (record {
  positions = workers-positions t (set t.workers (t.splits + 1) new_worker) t.heirs t.leaf (t.splits + 1) (length-set t.workers (t.splits + 1) new_worker ∙ kept.positions.workers) kept.positions.heirs kept.positions;
  state = ap (λ (s : State). record s { workers = t.splits + 1 + 1; splits = t.splits + 1 }) (state-worker t (t.splits + 1) new_worker within);
  leaf_modules = kept.leaf_modules;
  uses = kept.uses;
  own = λ v below stays. kept.own v below (λ come.
      let apart : v ≢ t.splits + 1 = λ same. absurd (let up : v < t.splits + 1 = come in omega arith) in
      ap (λ y. y.gone) (sym (get_or-set_other t.workers (t.splits + 1) v new_worker no_worker apart)) ∙ stays (let up : v < t.splits + 1 = come in omega arith));
  busy = kept.busy;
  untold = kept.untold;
})
  where
    within : t.splits + 1 < length t.workers
    within = let room : t.splits < 63 = may.1 in let size : length t.workers ≡ 64 = kept.positions.workers in omega arith

-- what is inherited afterwards is what was inherited, passed on
inherited-after : (heirs : List ℕ) (keeps gone : ℕ) (x : Stage) → gone < 64 → stage_with_heirs (map (heir_after keeps gone) heirs) x ≡ reassign keeps gone (stage_with_heirs heirs x)
inherited-after heirs keeps gone Waiting few = refl
inherited-after heirs keeps gone (Owed w) few = refl
inherited-after heirs keeps gone (Taken w) few = refl
inherited-after heirs keeps gone (Done w) few = ap Done (go (cases_lt w (length heirs)))
  where
    go : (w < length heirs) ⊎ (length heirs ≤ w) → get_or (map (heir_after keeps gone) heirs) w 64 ≡ heir_after keeps gone (get_or heirs w 64)
    go (inl within) = get_or-map (heir_after keeps gone) heirs w 64 64 within
    go (inr past) =
        let size : length (map (heir_after keeps gone) heirs) ≡ length heirs = length-map heirs (heir_after keeps gone) in
        get_or-past (map (heir_after keeps gone) heirs) w 64 (omega arith)
        ∙ sym (cond-false (64 == gone) keeps 64 (ne_eqb 64 gone (λ same. absurd (omega arith))))
        ∙ ap (heir_after keeps gone) (sym (get_or-past heirs w 64 past))

pub join-writes : (t : Table) (keeps gone : ℕ) (old : Worker) → IsKept t → May (state_of t) (Join keeps gone) → old ≡ (state_of t).worker gone
    → Writes t (record t { workers = set t.workers gone (record old { gone = true }); heirs = map (heir_after keeps gone) t.heirs }) (Join keeps gone)
join-writes t keeps gone old kept may is = subst (λ y. Writes t (record t { workers = set t.workers gone (record y { gone = true }); heirs = map (heir_after keeps gone) t.heirs }) (Join keeps gone)) (sym is)
    (counted t (record t { workers = set t.workers gone going; heirs = map (heir_after keeps gone) t.heirs }) (Join keeps gone) kept may (record {
      positions = workers-positions t (set t.workers gone going) (map (heir_after keeps gone) t.heirs) t.leaf t.splits (length-set t.workers gone going ∙ kept.positions.workers)
          (length-map t.heirs (heir_after keeps gone) ∙ kept.positions.heirs) kept.positions;
      state = ap (λ f. record (state_of (record t { workers = set t.workers gone going })) { stage = f }) (fun_ext (λ m. inherited-after t.heirs keeps gone (get_or t.stages m Waiting) few))
          ∙ ap (λ (s : State). record s { stage = λ m. reassign keeps gone ((state_of t).stage m) }) (state-worker t gone going within);
      leaf_modules = kept.leaf_modules;
      uses = kept.uses;
      own = own;
      busy = λ v below. kept.busy v below ∙ sym (busy-reassign (state_of t) keeps gone v);
      untold = λ v below. kept.untold v below ∙ sym (untold-reassign (state_of t) keeps gone v may.4);
    }))
  where
    going : Worker
    going = record ((state_of t).worker gone) { gone = true }

    few : gone < 64
    few = there-lt t gone kept may.2

    within : gone < length t.workers
    within = let size : length t.workers ≡ 64 = kept.positions.workers in omega (arith, few)

    own : (v : ℕ) → v < 64 → (v < t.splits + 1 → (get_or (set t.workers gone going) v no_worker).gone ≡ false) → get_or (map (heir_after keeps gone) t.heirs) v 64 ≡ v
    own v below stays =
        get_or-map (heir_after keeps gone) t.heirs v 64 64 (let size : length t.heirs ≡ 64 = kept.positions.heirs in omega arith)
        ∙ ap (heir_after keeps gone) was ∙ cond-false (v == gone) keeps v (ne_eqb v gone apart)
      where
        apart : v ≢ gone
        apart same = true≢false (ap (λ y. y.gone) (sym (get_or-set_same t.workers gone going no_worker within)) ∙ ap (λ n. (get_or (set t.workers gone going) n no_worker).gone) (sym same)
            ∙ stays (let there : gone < t.splits + 1 = may.2.0 in omega arith))

        was : get_or t.heirs v 64 ≡ v
        was = kept.own v below (λ come. ap (λ y. y.gone) (sym (get_or-set_other t.workers gone v going no_worker apart)) ∙ stays come)
