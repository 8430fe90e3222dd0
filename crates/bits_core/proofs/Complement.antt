-- Two's complement: inverted words, signed readings and words of integers.
use Rattle.std.proofs.Common.{◌≡◌, refl, sym, ap, ap₂, ◌∙◌, ℕ, suc, ◌+◌, ◌-◌, ◌*◌, ◌/◌, ◌%◌, ◌^◌, ◌<◌, ◌≤◌, inl, inr, ◌==◌, Bool, true, false, not, cond, [], ◌∷◌, length, arith, pow_pos, pow-suc, mod-lt, mod-eq_of_lt, div-add-mod', zero-add, ℤ, pos, negsuc, neg_ℤ, nat_abs, ◌-ℤ◌, ◌≤ℤ◌, ◌<ℤ◌, int_div, int_rem}
use Rattle.std.proofs.Math.Bool.{beq}
use Rattle.std.proofs.Math.Nat.{mul-add-mod_self_right, mul-mod_left, mod-eq-sub-mod, div-eq_of_lt}
use Rattle.std.proofs.lemmas.Bool.{cases_lt}
use Rattle.std.proofs.lemmas.Int.{ints}
use Rattle.std.proofs.lemmas.List.{length-map}
use Rattle.bits_core.specs.Word.{Word, number, bits, sign, signed, bits_of_ℤ, not_word, xor}
use Rattle.bits_core.proofs.Numbers.{length-bits, number-bits, number-bits-below, number_below, bits-number, bits-high, same_from_number}

-- ---- inverted words

pub length-not : (x : Word) → length (not_word x) ≡ length x
length-not x = length-map x not

pub not-not_word : (x : Word) → not_word (not_word x) ≡ x
not-not_word [] = refl
not-not_word (true ∷ x) = ap (λ (bs : Word). true ∷ bs) (not-not_word x)
not-not_word (false ∷ x) = ap (λ (bs : Word). false ∷ bs) (not-not_word x)

-- a word and its inverse make the word of ones
pub number-not : (x : Word) → number (not_word x) + number x + 1 ≡ 2 ^ length x
number-not [] = refl
number-not (true ∷ x) = rw pow-suc (omega (arith, number-not x))
number-not (false ∷ x) =
    rw (length-map x not, pow-suc) (omega (arith, number-not x))

-- below twice a number only that number is a multiple of it
only_multiple : (s p : ℕ) → 0 < s → s < p + p → s % p ≡ 0 → s ≡ p
only_multiple s p some below zero_rest =
    elim (cases_lt s p) as (λ _. s ≡ p) [
      | inl t ↦ absurd (omega (arith, mod-eq_of_lt t))
      | inr t ↦ let l : s - p < p = omega arith in omega (arith, mod-eq-sub-mod t, mod-eq_of_lt l)
    ]

-- the rests of two numbers that make all ones make all ones
complement-mod : (n m c p : ℕ) → 0 < p → n + m + 1 ≡ c * p → n % p + m % p + 1 ≡ p
complement-mod n m c p h e =
    let sum : (n / p + m / p) * p + (n % p + m % p + 1) ≡ c * p = omega (arith, div-add-mod' n p, div-add-mod' m p) in
    only_multiple (n % p + m % p + 1) p (omega arith) (omega (arith, mod-lt n h, mod-lt m h))
    (sym (mul-add-mod_self_right (n / p + m / p) p (n % p + m % p + 1)) ∙ ap (λ (k : ℕ). k % p) sum ∙ mul-mod_left c p)

-- numbers that make all ones have inverted bits
pub not-bits : (w n m c : ℕ) → n + m + 1 ≡ c * 2 ^ w → not_word (bits w n) ≡ bits w m
not-bits w n m c e =
    let ones : number (not_word (bits w n)) + n % 2 ^ w + 1 ≡ 2 ^ w = rw (number-bits w n, length-bits w n) at (number-not (bits w n)) in
    same_from_number (not_word (bits w n)) (bits w m) (length-not (bits w n) ∙ length-bits w n ∙ sym (length-bits w m))
    (omega (arith, ones, number-bits w m, complement-mod n m c (2 ^ w) (pow_pos w) e))

-- ---- the word of a difference

pub difference-natural : (a b : ℕ) → b ≤ a → pos a -ℤ pos b ≡ pos (a - b)
difference-natural a b h = omega (arith, ints)

pub difference-negative : (a b : ℕ) → a < b → pos a -ℤ pos b ≡ negsuc (b - a - 1)
difference-negative a b h = omega (arith, ints)

-- to go below 0 is to start from a multiple of the power
pub bits_of-difference : (w a b c : ℕ) → b ≤ c * 2 ^ w → bits_of_ℤ w (pos a -ℤ pos b) ≡ bits w (a + (c * 2 ^ w - b))
bits_of-difference w a b c h =
    elim (cases_lt a b) as (λ _. bits_of_ℤ w (pos a -ℤ pos b) ≡ bits w (a + (c * 2 ^ w - b))) [
      | inl t ↦ ap (bits_of_ℤ w) (difference-negative a b t) ∙ not-bits w (b - a - 1) (a + (c * 2 ^ w - b)) c (omega arith)
      | inr t ↦ let s : c * 2 ^ w + (a - b) ≡ a + (c * 2 ^ w - b) = omega arith in
          ap (bits_of_ℤ w) (difference-natural a b t) ∙ sym (bits-high w c (a - b)) ∙ ap (bits w) s
    ]

pub bits_of-negated : (w n c : ℕ) → n ≤ c * 2 ^ w → bits_of_ℤ w (neg_ℤ (pos n)) ≡ bits w (c * 2 ^ w - n)
bits_of-negated w n c h =
    let e : neg_ℤ (pos n) ≡ pos 0 -ℤ pos n = omega (arith, ints) in
    ap (bits_of_ℤ w) e ∙ bits_of-difference w 0 n c h ∙ ap (bits w) (zero-add (c * 2 ^ w - n))

pub length-bits_of_ℤ : (w : ℕ) (z : ℤ) → length (bits_of_ℤ w z) ≡ w
length-bits_of_ℤ w (pos n) = length-bits w n
length-bits_of_ℤ w (negsuc n) = length-not (bits w n) ∙ length-bits w n

-- ---- signed readings

pub signed-natural : (x : Word) → sign x ≡ false → signed x ≡ pos (number x)
signed-natural x h = rw h refl

pub signed-negative : (x : Word) → sign x ≡ true → signed x ≡ negsuc (2 ^ length x - 1 - number x)
signed-negative x h =
    rw h (difference-negative (number x) (2 ^ length x) (number_below x) ∙ ap negsuc (omega arith))

-- the word of a signed reading is the word
pub bits_of-signed : (x : Word) → bits_of_ℤ (length x) (signed x) ≡ x
bits_of-signed x = go (sign x) refl
  where
    go : (b : Bool) → sign x ≡ b → bits_of_ℤ (length x) (signed x) ≡ x
    go true h =
        let whole : number x + (1 * 2 ^ length x - 2 ^ length x) ≡ number x = omega arith in
        ap (λ (b : Bool). bits_of_ℤ (length x) (cond b (pos (number x) -ℤ pos (2 ^ length x)) (pos (number x)))) h
        ∙ bits_of-difference (length x) (number x) (2 ^ length x) 1 (omega arith) ∙ ap (bits (length x)) whole ∙ bits-number x
    go false h = ap (bits_of_ℤ (length x)) (signed-natural x h) ∙ bits-number x

-- an integer that fits a word with its sign comes back
pub signed-bits_of_ℤ : (w : ℕ) (z : ℤ) → neg_ℤ (pos (2 ^ w)) ≤ℤ z → z <ℤ pos (2 ^ w) → signed (bits_of_ℤ (suc w) z) ≡ z
signed-bits_of_ℤ w (pos n) low high =
    let below : n < 2 ^ w = omega (arith, ints) in
    ap (λ (m : ℕ). signed ((m % 2 == 1) ∷ bits w n)) (div-eq_of_lt below) ∙ ap pos (omega (arith, number-bits-below w n below))
signed-bits_of_ℤ w (negsuc n) low high =
    let below : n < 2 ^ w = omega (arith, ints) in
    let rest : number (not_word (bits w n)) + n + 1 ≡ 2 ^ w = rw (number-bits-below w n below, length-bits w n) at (number-not (bits w n)) in
    let wide : length (not_word (bits w n)) ≡ w = length-not (bits w n) ∙ length-bits w n in
    let double : 2 ^ suc w ≡ 2 ^ w * 2 = pow-suc 2 w in
    ap (λ (m : ℕ). signed (not (m % 2 == 1) ∷ not_word (bits w n))) (div-eq_of_lt below)
    ∙ signed-negative (true ∷ not_word (bits w n)) refl
    ∙ ap negsuc (rw wide (omega arith))

-- whether an integer is below 0
abbrev pub is_below_zero : ℤ → Bool
is_below_zero (pos n) = false
is_below_zero (negsuc n) = true

pub is_below_zero-signed : (x : Word) → is_below_zero (signed x) ≡ sign x
is_below_zero-signed x = go (sign x) refl
  where
    go : (b : Bool) → sign x ≡ b → is_below_zero (signed x) ≡ sign x
    go true h = ap is_below_zero (signed-negative x h) ∙ sym h
    go false h = ap is_below_zero (signed-natural x h) ∙ sym h

-- a signed reading lies as far from 0 as its word, or what its word lacks to the power
pub magnitude-signed : (x : Word) → nat_abs (signed x) ≡ cond (sign x) (2 ^ length x - number x) (number x)
magnitude-signed x = go (sign x) refl
  where
    go : (b : Bool) → sign x ≡ b → nat_abs (signed x) ≡ cond (sign x) (2 ^ length x - number x) (number x)
    go true h =
        let e : suc (2 ^ length x - 1 - number x) ≡ 2 ^ length x - number x = omega (arith, number_below x) in
        ap nat_abs (signed-negative x h) ∙ e ∙ ap (λ (b : Bool). cond b (2 ^ length x - number x) (number x)) (sym h)
    go false h = ap nat_abs (signed-natural x h) ∙ ap (λ (b : Bool). cond b (2 ^ length x - number x) (number x)) (sym h)

-- a quotient and its rest by signs and magnitudes
pub quotient_by_magnitude : (z d : ℤ) → int_div z d ≡ cond (xor (is_below_zero z) (is_below_zero d)) (neg_ℤ (pos (nat_abs z / nat_abs d))) (pos (nat_abs z / nat_abs d))
quotient_by_magnitude (pos a) (pos b) = refl
quotient_by_magnitude (pos a) (negsuc b) = refl
quotient_by_magnitude (negsuc a) (pos b) = refl
quotient_by_magnitude (negsuc a) (negsuc b) = refl

pub rest_by_magnitude : (z d : ℤ) → int_rem z d ≡ cond (is_below_zero z) (neg_ℤ (pos (nat_abs z % nat_abs d))) (pos (nat_abs z % nat_abs d))
rest_by_magnitude (pos a) d = refl
rest_by_magnitude (negsuc a) d = refl

-- the same of words, by their top bits
signs_differ : (a b : Bool) → xor a b ≡ not (beq a b)
signs_differ true true = refl
signs_differ true false = refl
signs_differ false true = refl
signs_differ false false = refl

pub quotient_by_sign : (x y : Word) → int_div (signed x) (signed y) ≡ cond (not (beq (sign x) (sign y))) (neg_ℤ (pos (nat_abs (signed x) / nat_abs (signed y)))) (pos (nat_abs (signed x) / nat_abs (signed y)))
quotient_by_sign x y =
    quotient_by_magnitude (signed x) (signed y)
    ∙ ap (λ (b : Bool). cond b (neg_ℤ (pos (nat_abs (signed x) / nat_abs (signed y)))) (pos (nat_abs (signed x) / nat_abs (signed y))))
    (ap₂ xor (is_below_zero-signed x) (is_below_zero-signed y) ∙ signs_differ (sign x) (sign y))

pub rest_by_sign : (x y : Word) → int_rem (signed x) (signed y) ≡ cond (sign x) (neg_ℤ (pos (nat_abs (signed x) % nat_abs (signed y)))) (pos (nat_abs (signed x) % nat_abs (signed y)))
rest_by_sign x y =
    rest_by_magnitude (signed x) (signed y)
    ∙ ap (λ (b : Bool). cond b (neg_ℤ (pos (nat_abs (signed x) % nat_abs (signed y)))) (pos (nat_abs (signed x) % nat_abs (signed y))))
    (is_below_zero-signed x)
