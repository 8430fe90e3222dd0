-- Gate lists that were run from the least significant bit on.
use Rattle.std.proofs.Common.{◌≡◌, refl, ap, ◌∙◌, ℕ, zero, suc, ◌+◌, ◌-◌, ◌<◌, ◌≤◌, List, [], ◌∷◌, length, drop, set, get_or, arith, false}
use Rattle.std.proofs.Math.Seq.{drop-cons}
use Rattle.std.proofs.lemmas.List.{drop-set}
use Rattle.gates.specs.declared.signal.Signal.{Signal}
use Rattle.gates.specs.declared.signal.Signal.TheVariants.{Fixed}
use Rattle.gates.specs.declared.signal.Sum.{Sum}
use Rattle.gates.specs.Build.{Build, full, majority}
use Rattle.gates.specs.Circuits.{Circuit, Runs}
use Rattle.gates.proofs.Running.{runs-done, runs_then}
use Rattle.gate_words.specs.GateLists.{each, reduced, sum, carried}

-- what stands before a position
pub drop_before : (xs : List Signal) (i : ℕ) (d : Signal) → 0 < i → i ≤ length xs → drop (i - 1) xs ≡ get_or xs (i - 1) d ∷ drop i xs
drop_before xs i d some h =
    let e : suc (i - 1) ≡ i = omega arith in
    let within : i - 1 < length xs = omega arith in
    drop-cons xs (i - 1) d within ∙ ap (λ n. get_or xs (i - 1) d ∷ drop n xs) e

-- and after a write there
pub drop_written : (xs : List Signal) (i : ℕ) (b : Signal) → 0 < i → i ≤ length xs → drop (i - 1) (set xs (i - 1) b) ≡ b ∷ drop i xs
drop_written xs i b some h =
    let e : i - 1 + 1 ≡ i = omega arith in
    let within : i - 1 < length xs = omega arith in
    drop-set xs (i - 1) b within ∙ ap (λ n. b ∷ drop n xs) e

pub each_before : (f : Signal → Signal → Build Signal) (xs ys made : List Signal) (i : ℕ) (d b : Signal) {s t u : Circuit}
    → 0 < i → i ≤ length xs → length xs ≡ length ys → length made ≡ length xs
    → Runs (each f (drop i xs) (drop i ys)) s t (drop i made) → Runs (f (get_or xs (i - 1) d) (get_or ys (i - 1) d)) t u b
    → Runs (each f (drop (i - 1) xs) (drop (i - 1) ys)) s u (drop (i - 1) (set made (i - 1) b))
unfolding each
each_before f xs ys made i d b some h e g first second =
    rw (drop_before xs i d some h, drop_before ys i d some (omega arith), drop_written made i b some (omega arith))
    (runs_then _ first (runs_then _ second runs-done))

pub reduced_before : (f : Signal → Signal → Build Signal) (xs : List Signal) (i : ℕ) (d a b : Signal) {s t u : Circuit}
    → 0 < i → i ≤ length xs → Runs (reduced f (drop i xs)) s t a → Runs (f (get_or xs (i - 1) d) a) t u b → Runs (reduced f (drop (i - 1) xs)) s u b
unfolding reduced
reduced_before f xs i d a b some h first second = rw (drop_before xs i d some h) (runs_then _ first second)

pub sum_before : (xs ys word : List Signal) (c : Signal) (i : ℕ) (d over : Signal) (bit : Sum) {s t u : Circuit}
    → 0 < i → i ≤ length xs → length xs ≡ length ys → length word ≡ length xs
    → Runs (sum (drop i xs) (drop i ys) c) s t (record { word = drop i word; carry = over })
    → Runs (full (get_or xs (i - 1) d) (get_or ys (i - 1) d) over) t u bit
    → Runs (sum (drop (i - 1) xs) (drop (i - 1) ys) c) s u (record { word = drop (i - 1) (set word (i - 1) bit.sum); carry = bit.carry })
unfolding sum
sum_before xs ys word c i d over bit some h e g first second =
    rw (drop_before xs i d some h, drop_before ys i d some (omega arith), drop_written word i bit.sum some (omega arith))
    (runs_then _ first (runs_then _ second runs-done))

pub carried_before : (xs ys : List Signal) (c : Signal) (i : ℕ) (d over bit : Signal) {s t u : Circuit}
    → 0 < i → i ≤ length xs → length xs ≡ length ys
    → Runs (carried (drop i xs) (drop i ys) c) s t over
    → Runs (majority (get_or xs (i - 1) d) (get_or ys (i - 1) d) over) t u bit
    → Runs (carried (drop (i - 1) xs) (drop (i - 1) ys) c) s u bit
unfolding carried
carried_before xs ys c i d over bit some h e first second =
    rw (drop_before xs i d some h, drop_before ys i d some (omega arith)) (runs_then _ first second)

-- before the first bit nothing was run
pub drop_end : (xs : List Signal) (n : ℕ) → length xs ≤ n → drop n xs ≡ []
drop_end [] zero h = refl
drop_end [] (suc n) h = refl
drop_end (x ∷ xs) zero h = absurd (omega arith)
drop_end (x ∷ xs) (suc n) h = drop_end xs n (omega arith)

pub each_start : (f : Signal → Signal → Build Signal) (xs ys made : List Signal) {s : Circuit} → length made ≡ length xs
    → Runs (each f (drop (length xs) xs) (drop (length xs) ys)) s s (drop (length xs) made)
unfolding each
each_start f xs ys made e = rw (drop_end xs (length xs) (omega arith), drop_end made (length xs) (omega arith)) runs-done

pub reduced_start : (f : Signal → Signal → Build Signal) (xs : List Signal) {s : Circuit} → Runs (reduced f (drop (length xs) xs)) s s (Fixed false)
unfolding reduced
reduced_start f xs = rw (drop_end xs (length xs) (omega arith)) runs-done

pub sum_start : (xs ys word : List Signal) (c : Signal) {s : Circuit} → length word ≡ length xs
    → Runs (sum (drop (length xs) xs) (drop (length xs) ys) c) s s (record { word = drop (length xs) word; carry = c })
unfolding sum
sum_start xs ys word c e = rw (drop_end xs (length xs) (omega arith), drop_end word (length xs) (omega arith)) runs-done

pub carried_start : (xs ys : List Signal) (c : Signal) {s : Circuit} → Runs (carried (drop (length xs) xs) (drop (length xs) ys) c) s s c
unfolding carried
carried_start xs ys c = rw (drop_end xs (length xs) (omega arith)) runs-done
