-- How many modules each worker owes or has taken, after each event.
use Rattle.std.proofs.Common.{◌≡◌, ℕ, ◌+◌, ◌<◌, ◌≤◌, true, false, length, refl, sym, ap, ◌∙◌, arith}
use Rattle.std.specs.Prelude.{◌==◌}
use Rattle.std.proofs.lemmas.Bool.{false≢true}
use Rattle.sched_core.specs.declared.parts.Stage.{Stage}
use Rattle.sched_core.specs.declared.parts.Stage.TheVariants.{Waiting, Owed, Taken, Done}
use Rattle.sched_core.specs.Sums.{one_if, put}
use Rattle.sched_core.specs.State.{State, is_waiting, is_busy_with, IsFree}
use Rattle.sched_core.specs.Events.{reassign}
use Rattle.sched_core.specs.Counts.{busy_of}
use Rattle.sched_core.proofs.SumLemmas.{sum_below-same, sum_below-changed, sum_below-none, sum_below-le, none_of_sum, one_if-le, one_if-zero}
use Rattle.sched_core.proofs.Puts.{put-here, put-other, put_keeps}
use Rattle.sched_core.proofs.Moves.{is_busy_with-reassign}

-- after another stage of one module
pub busy-put : (s : State) (m w : ℕ) (x : Stage) → m < length s.callees
    → busy_of (record s { stage = put m x s.stage }) w + one_if (is_busy_with w (s.stage m)) ≡ busy_of s w + one_if (is_busy_with w x)
busy-put s m w x within =
    let change : busy_of (record s { stage = put m x s.stage }) w + one_if (is_busy_with w (s.stage m)) ≡ busy_of s w + one_if (is_busy_with w (put m x s.stage m)) =
    sum_below-changed (length s.callees) (λ k. one_if (is_busy_with w (s.stage k))) (λ k. one_if (is_busy_with w (put m x s.stage k))) m within
    (λ k other. ap (λ y. one_if (is_busy_with w y)) (put-other m x s.stage k other)) in
    change ∙ ap (λ y. busy_of s w + one_if (is_busy_with w y)) (put-here m x s.stage)

not_busy : (w : ℕ) (x : Stage) → is_waiting x ≡ true → is_busy_with w x ≡ false
not_busy w Waiting is = refl
not_busy w (Owed v) is = absurd (false≢true is)
not_busy w (Taken v) is = absurd (false≢true is)
not_busy w (Done v) is = absurd (false≢true is)

-- a module that waited is owed
pub busy-owed : (s : State) (m w v : ℕ) → m < length s.callees → is_waiting (s.stage m) ≡ true
    → busy_of (record s { stage = put m (Owed w) s.stage }) v ≡ busy_of s v + one_if (v == w)
busy-owed s m w v within waits =
    let change = busy-put s m v (Owed w) within in
    let none : one_if (is_busy_with v (s.stage m)) ≡ 0 = ap one_if (not_busy v (s.stage m) waits) in
    omega arith

-- a module that was owed is taken
pub busy-taken : (s : State) (m w v : ℕ) → s.stage m ≡ Owed w → busy_of (record s { stage = put m (Taken w) s.stage }) v ≡ busy_of s v
busy-taken s m w v owed =
    sum_below-same (length s.callees) (λ k. one_if (is_busy_with v (put m (Taken w) s.stage k))) (λ k. one_if (is_busy_with v (s.stage k)))
    (λ k below. put_keeps (λ y. one_if (is_busy_with v y)) m (Taken w) s.stage (sym (ap (λ y. one_if (is_busy_with v y)) owed)) k)

-- a module that was taken is done
pub busy-done : (s : State) (m w v : ℕ) → m < length s.callees → s.stage m ≡ Taken w
    → busy_of (record s { stage = put m (Done w) s.stage }) v + one_if (v == w) ≡ busy_of s v
busy-done s m w v within taken =
    let change = busy-put s m v (Done w) within in
    let one : one_if (is_busy_with v (s.stage m)) ≡ one_if (v == w) = ap (λ y. one_if (is_busy_with v y)) taken in
    let none : busy_of s v + 0 ≡ busy_of s v = omega arith in
    omega arith

-- what one worker did passes to another
pub busy-reassign : (s : State) (kept gone v : ℕ) → busy_of (record s { stage = λ m. reassign kept gone (s.stage m) }) v ≡ busy_of s v
busy-reassign s kept gone v =
    sum_below-same (length s.callees) (λ k. one_if (is_busy_with v (reassign kept gone (s.stage k)))) (λ k. one_if (is_busy_with v (s.stage k)))
    (λ k below. ap one_if (is_busy_with-reassign kept gone v (s.stage k)))

pub busy-le : (s : State) (w : ℕ) → busy_of s w ≤ length s.callees
busy-le s w = sum_below-le (length s.callees) (λ m. one_if (is_busy_with w (s.stage m))) (λ m. one_if-le (is_busy_with w (s.stage m)))

-- a worker that is busy with no module has a count of zero, and the other way round
pub busy-free : (s : State) (w : ℕ) → IsFree s w → busy_of s w ≡ 0
busy-free s w free = sum_below-none (length s.callees) (λ m. one_if (is_busy_with w (s.stage m))) (λ m below. ap one_if (free m))

pub free_of_busy : (s : State) (w : ℕ) → busy_of s w ≡ 0 → (m : ℕ) → m < length s.callees → is_busy_with w (s.stage m) ≡ false
free_of_busy s w none m within =
    one_if-zero (is_busy_with w (s.stage m)) (none_of_sum (length s.callees) (λ k. one_if (is_busy_with w (s.stage k))) none m within)
