-- Tables after a write: they have the same positions, and are kept where their state is the event's.
use Rattle.std.proofs.Common.{◌≡◌, ◌≢◌, ℕ, ◌+◌, ◌-◌, ◌<◌, ◌≤◌, ◌⊎◌, true, false, List, [], ◌∷◌, length, set, get_or, sym, ap, subst, ◌∙◌, inl, inr, arith}
use Rattle.std.proofs.lemmas.Bool.{true≢false, cases_lt, cases_eq}
use Rattle.std.proofs.lemmas.List.{get_or-set_same, get_or-set_other}
use Rattle.sched_core.specs.declared.parts.Stage.{Stage}
use Rattle.sched_core.specs.declared.parts.Stage.TheVariants.{Waiting}
use Rattle.sched_core.specs.declared.event.Event.{Event}
use Rattle.sched_core.specs.Sums.{one_if, put}
use Rattle.sched_core.specs.State.{leaves, leaves_from, is_waiting, is_held_by, no_worker}
use Rattle.sched_core.specs.Events.{May, step}
use Rattle.sched_core.specs.Sound.{Sound, passed_workers}
use Rattle.sched_core.specs.Counts.{uses_of, busy_of, untold_of}
use Rattle.sched_core.specs.Table.{Table, state_of, stage_with_heirs, HasPositions, IsKept}
use Rattle.sched_core.proofs.SumLemmas.{sum_below-le, one_if-le}
use Rattle.sched_core.proofs.Keeping.{step-sound}
use Rattle.sched_core.proofs.Reading.{get_or-past, parts-set}
use Rattle.sched_core.proofs.Tested.{there-lt}

-- the table after the write tells the state after the event, and is kept
pub record Writes (t after : Table) (e : Event) : Type 0 where
  pub state : state_of after ≡ step (state_of t) e
  pub kept : IsKept after

-- what a write leaves, and what is left to show of the counts
pub record Counted (t after : Table) (e : Event) : Type 0 where
  pub positions : HasPositions after
  pub state : state_of after ≡ step (state_of t) e
  pub leaf_modules : after.leaf_modules ≡ leaves after.callees
  pub uses : (m : ℕ) → m < length after.callees → get_or after.uses m 0 ≡ uses_of after.callees m
  pub own : (w : ℕ) → w < 64 → (w < after.splits + 1 → (get_or after.workers w no_worker).gone ≡ false) → get_or after.heirs w 64 ≡ w
  pub busy : (w : ℕ) → w < 64 → get_or after.busy w 0 ≡ busy_of (step (state_of t) e) w
  pub untold : (w : ℕ) → w < 64 → get_or after.untold w 0 ≡ untold_of (step (state_of t) e) w

pub counted : (t after : Table) (e : Event) → IsKept t → May (state_of t) e → Counted t after e → Writes t after e
counted t after e kept may count = record {
  state = count.state;
  kept = record {
    positions = count.positions;
    sound = subst Sound (sym count.state) (step-sound (state_of t) e kept.sound may);
    leaf_modules = count.leaf_modules;
    uses = count.uses;
    own = count.own;
    busy = λ w below. count.busy w below ∙ ap (λ s. busy_of s w) (sym count.state);
    untold = λ w below. count.untold w below ∙ ap (λ s. untold_of s w) (sym count.state);
  };
}

-- a count that changes at one worker
pub count-set : (xs : List ℕ) (w x : ℕ) (f g : ℕ → ℕ) → length xs ≡ 64 → w < 64 → ((v : ℕ) → v < 64 → get_or xs v 0 ≡ f v) → x ≡ g w → ((v : ℕ) → v ≢ w → g v ≡ f v)
    → (v : ℕ) → v < 64 → get_or (set xs w x) v 0 ≡ g v
count-set xs w x f g size within old new others v below = go (cases_eq v w)
  where
    go : (v ≡ w) ⊎ (v ≢ w) → get_or (set xs w x) v 0 ≡ g v
    go (inl here) = ap (λ k. get_or (set xs w x) k 0) here ∙ get_or-set_same xs w x 0 (omega arith) ∙ new ∙ ap g (sym here)
    go (inr other) = get_or-set_other xs w v x 0 other ∙ old v below ∙ sym (others v other)

-- the state after another stage of a module
pub state-stage : (t : Table) (m : ℕ) (x : Stage) → m < length t.stages
    → state_of (record t { stages = set t.stages m x }) ≡ record (state_of t) { stage = put m (stage_with_heirs t.heirs x) (state_of t).stage }
state-stage t m x within = ap (λ f. record (state_of t) { stage = f }) (parts-set (stage_with_heirs t.heirs) Waiting t.stages m x within)

-- a module that does not wait has a position
pub stage-within : (t : Table) (m : ℕ) → is_waiting ((state_of t).stage m) ≡ false → m < length t.stages
stage-within t m is = go (cases_lt m (length t.stages))
  where
    go : (m < length t.stages) ⊎ (length t.stages ≤ m) → m < length t.stages
    go (inl within) = within
    go (inr past) = absurd (true≢false (ap (λ x. is_waiting (stage_with_heirs t.heirs x)) (sym (get_or-past t.stages m Waiting past)) ∙ is))

-- who holds a module is one of 64
pub holder-lt : (t : Table) (m w : ℕ) → IsKept t → is_held_by w ((state_of t).stage m) ≡ true → w < 64
holder-lt t m w kept held = there-lt t w kept (kept.sound.there m w held)

-- there are at most as many leaves as modules
pub leaves_from-le : (k : ℕ) (callees : List (List ℕ)) → length (leaves_from k callees) ≤ length callees
leaves_from-le k [] = omega arith
leaves_from-le k ([] ∷ rest) = let more : length (leaves_from (k + 1) rest) ≤ length rest = leaves_from-le (k + 1) rest in omega arith
leaves_from-le k ((x ∷ xs) ∷ rest) = let more : length (leaves_from (k + 1) rest) ≤ length rest = leaves_from-le (k + 1) rest in omega arith

-- the draws are at most 64 more than the modules
pub leaf-le : (t : Table) → IsKept t → t.leaf ≤ length t.callees + 64
leaf-le t kept =
    let some : length (leaves t.callees) ≤ length t.callees = leaves_from-le 0 t.callees in
    let past : passed_workers (state_of t) ≡ t.leaf - length (leaves t.callees) = kept.sound.past in
    let most : passed_workers (state_of t) ≤ t.splits + 1 =
    sum_below-le (t.splits + 1) (λ w. one_if ((state_of t).worker w).passed) (λ w. one_if-le ((state_of t).worker w).passed) in
    let few : t.splits + 1 ≤ 64 = kept.sound.few in
    omega arith
