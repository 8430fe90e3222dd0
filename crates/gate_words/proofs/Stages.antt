-- Shifts that were run stage by stage, from the least bit of the amount on.
use Rattle.std.proofs.Common.{◌≡◌, refl, sym, ap, subst, ◌∙◌, ℕ, suc, ◌-◌, ◌*◌, ◌^◌, ◌<◌, ◌≤◌, min, Bool, true, false, cond, nat_lt, List, [], ◌∷◌, ◌++◌, length, take, drop, replicate, get_or, arith}
use Rattle.std.proofs.Common.{inl, inr, pow-suc, length-append, length-drop, length-take}
use Rattle.std.proofs.Math.ListN.{length-replicate}
use Rattle.std.proofs.Math.Nat.{min-eq_left}
use Rattle.std.proofs.lemmas.Bool.{cases_lt, lt-ltb, le-ltb}
use Rattle.gates.specs.declared.signal.Signal.{Signal}
use Rattle.gates.specs.declared.signal.Signal.TheVariants.{Fixed}
use Rattle.gates.specs.Build.{Build, or}
use Rattle.gates.specs.Circuits.{Circuit, Runs}
use Rattle.gates.proofs.Running.{runs-done, runs_then}
use Rattle.gate_words.specs.GateLists.{choose, moved_up, moved_down, Shifted, stage, moved_from, no_bits, top_inverted}
use Rattle.gate_words.specs.Directions.{move_of}
use Rattle.gate_words.specs.declared.shifts.Direction.{Direction}
use Rattle.gate_words.specs.declared.shifts.Direction.TheVariants.{Up, Down}
use Rattle.gate_words.proofs.Loops.{drop_before, drop_end}

-- ---- moves by the width at most

pub moved_up_within : (xs : List Signal) (n : ℕ) → n ≤ length xs → moved_up xs n ≡ drop n xs ++ replicate n (Fixed false)
moved_up_within xs n h = ap (λ k. drop n xs ++ replicate k (Fixed false)) (min-eq_left h)

pub moved_down_within : (s : Signal) (xs : List Signal) (n : ℕ) → n ≤ length xs → moved_down s xs n ≡ replicate n s ++ take (length xs - n) xs
moved_down_within s xs n h = ap (λ k. replicate k s ++ take (length xs - n) xs) (min-eq_left h)

pub length-move : (d : Direction) (xs : List Signal) (n : ℕ) → length (move_of d xs n) ≡ length xs
length-move Up xs n =
    omega (arith, length-append (drop n xs) (no_bits (min n (length xs))), length-drop n xs, length-replicate (min n (length xs)) (Fixed false))
length-move (Down s) xs n =
    omega (arith, length-append (replicate (min n (length xs)) s) (take (length xs - n) xs), length-take (length xs - n) xs, length-replicate (min n (length xs)) s)

-- ---- one stage

is_first : {A : Type 0} (b : Bool) (x y : A) → b ≡ true → x ≡ cond b x y
is_first b x y e = sym (ap (λ t. cond t x y) e)

is_second : {A : Type 0} (b : Bool) (x y : A) → b ≡ false → y ≡ cond b x y
is_second b x y e = sym (ap (λ t. cond t x y) e)

both_second : {A : Type 0} (a b : Bool) (x y z : A) → a ≡ false → b ≡ false → cond a x z ≡ cond b y z
both_second a b x y z e f = sym (is_second a x z e) ∙ is_second b y z f

-- the distance is below the width: the word is moved
pub stage_near : (f : List Signal → ℕ → List Signal) (w d : ℕ) (b : Signal) (low : Shifted) (next : List Signal) {s t : Circuit} → d < w
    → Runs (choose b (f low.word d) low.word) s t next → Runs (stage f w d b low) s t (record { word = next; is_out = low.is_out })
stage_near f w d b low next {s = s} {t = t} near run =
    subst (λ (p : Build Shifted). Runs p s t (record { word = next; is_out = low.is_out })) (is_first (nat_lt d w) _ _ (lt-ltb d w near)) (runs_then _ run runs-done)

-- it is not: the bit is out
pub stage_far : (f : List Signal → ℕ → List Signal) (w d : ℕ) (b : Signal) (low : Shifted) (out : Signal) {s t : Circuit} → w ≤ d
    → Runs (or b low.is_out) s t out → Runs (stage f w d b low) s t (record { word = low.word; is_out = out })
stage_far f w d b low out {s = s} {t = t} far run =
    subst (λ (p : Build Shifted). Runs p s t (record { word = low.word; is_out = out })) (is_second (nat_lt d w) _ _ (le-ltb d w far)) (runs_then _ run runs-done)

-- a distance that is the other one where it is below the width
stage_same : (f : List Signal → ℕ → List Signal) (w d p : ℕ) (b : Signal) (low : Shifted) → d ≤ p → (d < w → d ≡ p) → stage f w d b low ≡ stage f w p b low
stage_same f w d p b low more same = elim (cases_lt d w) as (λ _. stage f w d b low ≡ stage f w p b low) [
  | inl near ↦ ap (λ n. stage f w n b low) (same near)
  | inr far ↦ let past : w ≤ p = omega arith in both_second (nat_lt d w) (nat_lt p w) _ _ _ (le-ltb d w far) (le-ltb p w past)
]

-- ---- stage by stage

pub moved_before : (f : List Signal → ℕ → List Signal) (xs ys : List Signal) (i d : ℕ) (o : Signal) (low next : Shifted) {s t u : Circuit}
    → 0 < i → i ≤ length ys → d ≤ 2 ^ (length ys - i) → (d < length xs → d ≡ 2 ^ (length ys - i))
    → Runs (moved_from f xs (drop i ys)) s t low → Runs (stage f (length xs) d (get_or ys (i - 1) o) low) t u next
    → Runs (moved_from f xs (drop (i - 1) ys)) s u next
unfolding moved_from
moved_before f xs ys i d o low next {s = s} {t = t} {u = u} some h more same first second =
    let power : 2 ^ (length ys - i) ≡ 2 ^ length (drop i ys) = ap (λ n. 2 ^ n) (sym (length-drop i ys)) in
    rw (drop_before ys i o some h)
    (runs_then _ first
    (subst (λ (p : Build Shifted). Runs p t u next)
    (stage_same f (length xs) d (2 ^ length (drop i ys)) (get_or ys (i - 1) o) low (subst (λ n. d ≤ n) power more) (λ near. same near ∙ power))
    second))

pub moved_start : (f : List Signal → ℕ → List Signal) (xs ys word : List Signal) (n : ℕ) {s : Circuit} → length ys ≤ n → word ≡ xs
    → Runs (moved_from f xs (drop n ys)) s s (record { word = word; is_out = Fixed false })
unfolding moved_from
moved_start f xs ys word n {s = s} h e =
    subst (λ w. Runs (moved_from f xs (drop n ys)) s s (record { word = w; is_out = Fixed false })) (sym e) (rw (drop_end ys n h) runs-done)

-- ---- the distance of the next stage

pub twice_more : (d e k top : ℕ) → e ≡ min (d * 2) top → d ≤ 2 ^ k → e ≤ 2 ^ suc k
twice_more d e k top is more = omega (arith, pow-suc 2 k, is, more)

pub twice_same : (d e k w top : ℕ) → e ≡ min (d * 2) top → (d < w → d ≡ 2 ^ k) → w ≤ top → e < w → e ≡ 2 ^ suc k
twice_same d e k w top is same fits below =
    let near : d < w = omega arith in
    let power : d ≡ 2 ^ k = same near in
    omega (arith, pow-suc 2 k, power, is)

-- ---- the top bit inverted

pub length-top_inverted : (xs : List Signal) → length (top_inverted xs) ≡ length xs
length-top_inverted [] = refl
length-top_inverted (x ∷ xs) = refl
