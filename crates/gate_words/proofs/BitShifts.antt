-- Shifts stage by stage, over bits, against shifts by a number; and how many gates the stages take.
use Rattle.std.proofs.Common.{◌≡◌, refl, sym, ap, ap₂, subst, ◌∙◌, ℕ, zero, suc, ◌+◌, ◌-◌, ◌*◌, ◌/◌, ◌^◌, ◌≤◌, min, Bool, true, false, not, cond, nat_lt, ◌||◌, [], ◌∷◌, ◌++◌, length, take, drop}
use Rattle.std.proofs.Common.{replicate, arith, pow-add, pow_mono, mul_assoc, mul-suc, inl, inr, append-nil, length-append, length-take, le_refl, take_all}
use Rattle.std.proofs.Math.ListN.{length-replicate}
use Rattle.std.proofs.Math.Nat.{min-eq_right, zero-min, sub-zero, mul-le-mul, div-div-eq-div-mul}
use Rattle.std.proofs.lemmas.Bool.{cases_lt}
use Rattle.std.proofs.lemmas.Bool.Decides.{nat_tests}
use Rattle.std.proofs.lemmas.List.{map-append, take-map}
use Rattle.bits_core.specs.Word.{Word, bit, bits, number, not_word, zeros, ones, shift_left, shift_right}
use Rattle.bits_core.proofs.Numbers.{bits-number, same_from_number}
use Rattle.bits_core.proofs.Complement.{length-not, not-not_word}
use Rattle.bits_core.proofs.Shifts.{length-shift_left, length-shift_right, shift_left_out, shift_left-zero, bits-shift_left, number-shift_right}
use Rattle.gates.specs.declared.signal.Signal.{Signal}
use Rattle.gates.proofs.Carrying.{Carrying}
use Rattle.gate_words.specs.GateLists.{no_bits, moved_up, moved_down}
use Rattle.gate_words.proofs.Words.{CarriesWord, word_length, word-append, word-drop, word-take, word-replicate, word-no_bits}
use Rattle.gate_words.proofs.LongGateLists.{choose_bits, BitShifted, bit_moved_from, bit_moved, length-moved_from, stage_gates, Moves}
use Rattle.gate_words.proofs.BitSums.{choose_first, choose_second, choose_is}
use Rattle.gate_words.proofs.BitProducts.{bits_kept}

-- ---- any shift that adds up

-- shifts keep the width; those of the word add up, and past its width nothing changes
pub record AddsUp (g : Word → ℕ → Word) (u : Word) : Type 0 where
  pub width : (w : Word) (m : ℕ) → length (g w m) ≡ length w
  pub none : g u 0 ≡ u
  pub adds : (a b : ℕ) → g (g u a) b ≡ g u (a + b)
  pub out : (m : ℕ) → length u ≤ m → g u m ≡ g u (length u)

-- the stages so far: shifted by the amount, or the amount is past the width
record IsPart (g : Word → ℕ → Word) (u : Word) (n : ℕ) (s : BitShifted) : Type 0 where
  inside : s.is_out ≡ false → s.word ≡ g u n
  outside : s.is_out ≡ true → length u ≤ n

module _ (g : Word → ℕ → Word) (u : Word) (shifts : AddsUp g u) where
  stage : (b : Bool) (k n : ℕ) (s : BitShifted) → IsPart g u n s
      → IsPart g u (bit b * k + n) (record { word = choose_bits b (g s.word k) s.word; is_out = s.is_out })
  stage true k n s part = record {
    inside = λ e. choose_first (g s.word k) s.word (shifts.width s.word k) ∙ ap (λ w. g w k) (part.inside e) ∙ shifts.adds n k
        ∙ ap (g u) (let f : n + k ≡ 1 * k + n = omega arith in f);
    outside = λ e. omega (arith, part.outside e);
  }
  stage false k n s part = record {
    inside = λ e. choose_second (g s.word k) s.word (shifts.width s.word k) ∙ part.inside e ∙ ap (g u) (let f : n ≡ 0 * k + n = omega arith in f);
    outside = λ e. omega (arith, part.outside e);
  }

  past : (b : Bool) (k n : ℕ) (s : BitShifted) → length u ≤ k → IsPart g u n s
      → IsPart g u (bit b * k + n) (record { word = s.word; is_out = b || s.is_out })
  past true k n s far part = record { inside = λ e. absurd cc; outside = λ e. omega arith }
  past false k n s far part = record {
    inside = λ e. part.inside e ∙ ap (g u) (let f : n ≡ 0 * k + n = omega arith in f);
    outside = λ e. omega (arith, part.outside e);
  }

  parts : (v : Word) → IsPart g u (number v) (bit_moved_from g u v)
  parts [] = record { inside = λ e. sym shifts.none; outside = λ e. absurd cc }
  parts (b ∷ v) = go (nat_lt (2 ^ length v) (length u)) refl (parts v)
    where
      go : (t : Bool) → nat_lt (2 ^ length v) (length u) ≡ t → IsPart g u (number v) (bit_moved_from g u v)
          → IsPart g u (bit b * 2 ^ length v + number v) (cond {A = BitShifted} t
          (record { word = choose_bits b (g (bit_moved_from g u v).word (2 ^ length v)) (bit_moved_from g u v).word; is_out = (bit_moved_from g u v).is_out })
          (record { word = (bit_moved_from g u v).word; is_out = b || (bit_moved_from g u v).is_out }))
      go true is part = stage b (2 ^ length v) (number v) (bit_moved_from g u v) part
      go false is part = past b (2 ^ length v) (number v) (bit_moved_from g u v) (far is) part
        where
          far : nat_lt (2 ^ length v) (length u) ≡ false → length u ≤ 2 ^ length v
          far h = grind (arith, nat_tests)

  -- the stages together shift by the amount
  pub moved_is : (v : Word) → bit_moved g u v ≡ g u (number v)
  moved_is v =
      choose_is (bit_moved_from g u v).is_out (g u (length u)) (bit_moved_from g u v).word
      (shifts.width u (length u) ∙ sym (length-moved_from g shifts.width u v))
      ∙ go (bit_moved_from g u v).is_out refl
    where
      go : (t : Bool) → (bit_moved_from g u v).is_out ≡ t → cond t (g u (length u)) (bit_moved_from g u v).word ≡ g u (number v)
      go true e = sym (shifts.out (number v) ((parts v).outside e))
      go false e = (parts v).inside e

-- ---- up

pub adds_up-left : (u : Word) → AddsUp shift_left u
adds_up-left u = record {
  width = length-shift_left;
  none = shift_left-zero u;
  adds = adds;
  out = λ m h. shift_left_out u m h ∙ sym (shift_left_out u (length u) (le_refl (length u)));
}
  where
    adds : (a b : ℕ) → shift_left (shift_left u a) b ≡ shift_left u (a + b)
    adds a b =
        let w = shift_left u a in
        let size : length w ≡ length u = length-shift_left u a in
        let low : bits (length u) (number w) ≡ bits (length u) (number u * 2 ^ a) =
        ap (λ n. bits n (number w)) (sym size) ∙ bits-number w ∙ sym (bits-shift_left u a) in
        let one : number w * 2 ^ b ≡ number w * 2 ^ b + 0 = omega arith in
        let two : number u * 2 ^ a * 2 ^ b + 0 ≡ number u * 2 ^ a * 2 ^ b = omega arith in
        let powers : number u * 2 ^ a * 2 ^ b ≡ number u * 2 ^ (a + b) =
        mul_assoc (number u) (2 ^ a) (2 ^ b) ∙ ap (λ n. number u * n) (sym (pow-add 2 a b)) in
        sym (bits-shift_left w b) ∙ ap₂ bits size one ∙ bits_kept (length u) (number w) (number u * 2 ^ a) (2 ^ b) 0 low
        ∙ ap (bits (length u)) (two ∙ powers) ∙ bits-shift_left u (a + b)

-- ---- down

-- down, with copies of a bit from above
abbrev pub filled : Bool → Word → ℕ → Word
filled b x n = replicate (min n (length x)) b ++ take (length x - n) x

pub length-filled : (b : Bool) (x : Word) (n : ℕ) → length (filled b x n) ≡ length x
length-filled b x n =
    omega (arith, length-append (replicate (min n (length x)) b) (take (length x - n) x), length-take (length x - n) x, length-replicate (min n (length x)) b)

right_adds : (u : Word) (a b : ℕ) → shift_right (shift_right u a) b ≡ shift_right u (a + b)
right_adds u a b =
    same_from_number (shift_right (shift_right u a) b) (shift_right u (a + b))
    (length-shift_right (shift_right u a) b ∙ length-shift_right u a ∙ sym (length-shift_right u (a + b)))
    (number-shift_right (shift_right u a) b ∙ ap (λ n. n / 2 ^ b) (number-shift_right u a)
    ∙ div-div-eq-div-mul (number u) (2 ^ a) (2 ^ b) ∙ ap (λ n. number u / n) (sym (pow-add 2 a b)) ∙ sym (number-shift_right u (a + b)))

not-zeros : (n : ℕ) → not_word (zeros n) ≡ ones n
not-zeros zero = refl
not-zeros (suc n) = ap (λ w. true ∷ w) (not-zeros n)

-- with copies of 1, as the inverse of the inverse with copies of 0
ones_from_inverse : (x : Word) (n : ℕ) → not_word (shift_right (not_word x) n) ≡ filled true x n
ones_from_inverse x n =
    let m = min n (length x) in
    let k = length x - n in
    ap (λ l. not_word (zeros (min n l) ++ take (l - n) (not_word x))) (length-not x)
    ∙ map-append not (zeros m) (take k (not_word x))
    ∙ ap₂ (λ a b. a ++ b) (not-zeros m) (ap not_word (take-map not k x) ∙ not-not_word (take k x))

filled_adds : (s : Bool) (u : Word) (a b : ℕ) → filled s (filled s u a) b ≡ filled s u (a + b)
filled_adds false u a b = right_adds u a b
filled_adds true u a b =
    sym (ones_from_inverse (filled true u a) b)
    ∙ ap (λ w. not_word (shift_right w b)) (ap not_word (sym (ones_from_inverse u a)) ∙ not-not_word (shift_right (not_word u) a))
    ∙ ap not_word (right_adds (not_word u) a b) ∙ ones_from_inverse u (a + b)

filled_out : (s : Bool) (x : Word) (n : ℕ) → length x ≤ n → filled s x n ≡ replicate (length x) s
filled_out s x n h =
    let past : length x - n ≡ 0 = omega arith in
    ap₂ (λ k l. replicate k s ++ take l x) (min-eq_right h) past ∙ append-nil (replicate (length x) s)

filled_none : (s : Bool) (x : Word) → filled s x 0 ≡ x
filled_none s x = ap₂ (λ k l. replicate k s ++ take l x) (zero-min (length x)) (sub-zero (length x)) ∙ take_all (length x) x (le_refl (length x))

pub adds_up-filled : (s : Bool) (u : Word) → AddsUp (filled s) u
adds_up-filled s u = record {
  width = length-filled s;
  none = filled_none s u;
  adds = filled_adds s u;
  out = λ m h. filled_out s u m h ∙ sym (filled_out s u (length u) (le_refl (length u)));
}

-- ---- the moves of signals

module _ {inputs : ℕ} (c : Carrying inputs) where
  pub moves-up : (n : ℕ) → Moves c moved_up shift_left n
  moves-up n = record {
    carries = λ k w ss m l h. word-append c k (drop m w) (drop m ss) (zeros (min m (length w))) (no_bits (min m (length ss)))
        (word-drop c k m w ss h)
        (subst (λ i. CarriesWord c k (zeros (min m i)) (no_bits (min m (length ss)))) (word_length c k w ss h) (word-no_bits c k (min m (length ss))));
    width = length-shift_left;
  }

  pub moves-down : (n : ℕ) (s : Signal) (b : Bool) → c.at n s b → Moves c (moved_down s) (filled b) n
  moves-down n s b hs = record {
    carries = λ k w ss m l h.
        subst (λ i. CarriesWord c k (filled b w m) (replicate (min m i) s ++ take (i - m) ss)) (sym (word_length c k w ss h))
        (word-append c k _ _ _ _ (word-replicate c k (min m (length w)) b s (c.later n k s b l hs)) (word-take c k (length w - m) w ss h));
    width = length-filled b;
  }

-- ---- how many gates

few_stages : (w k : ℕ) → k ≤ 7 → stage_gates w k ≤ 3 * (w * k) + k
few_stages w zero h = omega arith
few_stages w (suc k) h = go (nat_lt (2 ^ k) w) (few_stages w k (omega arith))
  where
    go : (t : Bool) → stage_gates w k ≤ 3 * (w * k) + k → cond t (3 * w) 1 + stage_gates w k ≤ 3 * (w * suc k) + suc k
    go true e = omega (arith, mul-suc w k)
    go false e = omega (arith, mul-suc w k)

more_stages : (w k : ℕ) → w ≤ 128 → stage_gates w (k + 7) ≤ 21 * w + (k + 7)
more_stages w zero h = few_stages_at w (few_stages w 7 (omega arith))
  where
    few_stages_at : (w : ℕ) → stage_gates w 7 ≤ 3 * (w * 7) + 7 → stage_gates w 7 ≤ 21 * w + 7
    few_stages_at w e = omega arith
more_stages w (suc k) h =
    let past : nat_lt (2 ^ (k + 7)) w ≡ false = far (2 ^ (k + 7)) (pow_mono {i = 7} {j = k + 7} (omega arith)) in
    let next : suc (k + 7) ≡ suc k + 7 = omega arith in
    subst (λ n. stage_gates w n ≤ 21 * w + n) next
    (subst (λ t. cond t (3 * w) 1 + stage_gates w (k + 7) ≤ 21 * w + suc (k + 7)) (sym past) (omega (arith, more_stages w k h)))
  where
    far : (p : ℕ) → 2 ^ 7 ≤ p → nat_lt p w ≡ false
    far p e = grind (arith, nat_tests)

-- words of 128 bits have seven stages
pub few_gates : (w k : ℕ) → w ≤ 128 → stage_gates w k ≤ 21 * w + k
few_gates w k h = elim (cases_lt k 7) as (λ _. stage_gates w k ≤ 21 * w + k) [
  | inl t ↦
      let small : k ≤ 7 = omega arith in
      let grows : w * k ≤ w * 7 = mul-le-mul (le_refl w) small in
      omega (arith, few_stages w k small)
  | inr t ↦
      let e : k - 7 + 7 ≡ k = omega arith in
      subst (λ n. stage_gates w n ≤ 21 * w + n) e (more_stages w (k - 7) h)
]
