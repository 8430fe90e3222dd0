-- What gate lists over bits make of words: sums, differences, comparisons, negations.
use Rattle.std.proofs.Common.{◌≡◌, refl, sym, ap, ap₂, subst, ◌∙◌, ℕ, ◌+◌, ◌-◌, ◌*◌, ◌^◌, ◌≤◌, ◌<◌, Bool, true, false, not, cond, nat_lt, ◌&&◌, ◌||◌, [], ◌∷◌, length, arith, pow-suc, pow_pos, pos, neg_ℤ}
use Rattle.std.specs.Prelude.{int_lt}
use Rattle.std.proofs.Math.ListN.{length-replicate}
use Rattle.std.proofs.lemmas.Bool.{lt-ltb}
use Rattle.std.proofs.lemmas.Bool.Decides.{nat_tests}
use Rattle.bits_core.specs.Word.{Word, bit, bits, number, bitwise, xor, not_word, zeros, add, sub, less, signed_less, same_word, bits_of_ℤ}
use Rattle.bits_core.proofs.Numbers.{number_below, bits-number, bits-high, number-zeros}
use Rattle.bits_core.proofs.Complement.{length-not, number-not, bits_of-difference, bits_of-negated, signed-natural, signed-negative}
use Rattle.bits_core.proofs.Order.{signed_less_same_sign}
use Rattle.gates.proofs.SingleBits.{carry_bit}
use Rattle.gate_words.proofs.Words.{top_flipped}
use Rattle.gate_words.proofs.WordGateLists.{bit_sum, bit_carried, mask_bits, flip_bits, any_bit}
use Rattle.gate_words.proofs.LongGateLists.{choose_bits, bit_less, bit_negated, length-bit_sum, length-flip_bits}

-- ---- choices, masks, inversions

pub choose_first : (u v : Word) → length u ≡ length v → choose_bits true u v ≡ u
choose_first [] v e = refl
choose_first (a ∷ u) [] e = absurd (omega arith)
choose_first (a ∷ u) (b ∷ v) e = ap (λ w. a ∷ w) (choose_first u v (omega arith))

pub choose_second : (u v : Word) → length u ≡ length v → choose_bits false u v ≡ v
choose_second [] [] e = refl
choose_second [] (b ∷ v) e = absurd (omega arith)
choose_second (a ∷ u) [] e = absurd (omega arith)
choose_second (a ∷ u) (b ∷ v) e = ap (λ w. b ∷ w) (choose_second u v (omega arith))

-- a choice of words is the word chosen
pub choose_is : (r : Bool) (u v : Word) → length u ≡ length v → choose_bits r u v ≡ cond r u v
choose_is true u v e = choose_first u v e
choose_is false u v e = choose_second u v e

pub mask_is : (r : Bool) (u : Word) → mask_bits r u ≡ cond r u (zeros (length u))
mask_is true [] = refl
mask_is true (b ∷ u) = ap (λ w. b ∷ w) (mask_is true u)
mask_is false [] = refl
mask_is false (b ∷ u) = ap (λ w. false ∷ w) (mask_is false u)

pub number-mask : (r : Bool) (u : Word) → number (mask_bits r u) ≡ bit r * number u
number-mask true u = ap number (mask_is true u) ∙ (let e : number u ≡ 1 * number u = omega arith in e)
number-mask false u = ap number (mask_is false u) ∙ number-zeros (length u) ∙ (let e : 0 ≡ 0 * number u = omega arith in e)

pub flip_is : (r : Bool) (u : Word) → flip_bits r u ≡ cond r (not_word u) u
flip_is true [] = refl
flip_is true (b ∷ u) = ap (λ w. not b ∷ w) (flip_is true u)
flip_is false [] = refl
flip_is false (b ∷ u) = ap (λ w. b ∷ w) (flip_is false u)

-- ---- sums

full_number : (a b k : Bool) (P N U V R : ℕ) → N + bit k * P ≡ U + V + R
    → bit (xor (xor a b) k) * P + N + bit (carry_bit a b k) * (P * 2) ≡ bit a * P + U + (bit b * P + V) + R
full_number true true true P N U V R e = omega arith
full_number true true false P N U V R e = omega arith
full_number true false true P N U V R e = omega arith
full_number true false false P N U V R e = omega arith
full_number false true true P N U V R e = omega arith
full_number false true false P N U V R e = omega arith
full_number false false true P N U V R e = omega arith
full_number false false false P N U V R e = omega arith

-- a sum's word and carry stand for the sum of the numbers
pub number-sum : (u v : Word) (r : Bool) → length v ≡ length u
    → number (bit_sum u v r).word + bit (bit_sum u v r).carry * 2 ^ length u ≡ number u + number v + bit r
number-sum [] [] r e = omega arith
number-sum [] (b ∷ v) r e = absurd (omega arith)
number-sum (a ∷ u) [] r e = absurd (omega arith)
number-sum (a ∷ u) (b ∷ v) r e =
    let f : length v ≡ length u = omega arith in
    rw (length-bit_sum u v r f, f, pow-suc)
    (full_number a b (bit_sum u v r).carry (2 ^ length u) (number (bit_sum u v r).word) (number u) (number v) (bit r) (number-sum u v r f))

pub word-sum : (u v : Word) (r : Bool) → length v ≡ length u → (bit_sum u v r).word ≡ bits (length u) (number u + number v + bit r)
word-sum u v r e =
    let total = bit_sum u v r in
    let size : length total.word ≡ length u = length-bit_sum u v r e in
    sym (bits-number total.word) ∙ ap (λ n. bits n (number total.word)) size
    ∙ sym (bits-high (length u) (bit total.carry) (number total.word))
    ∙ ap (bits (length u)) (let f : bit total.carry * 2 ^ length u + number total.word ≡ number u + number v + bit r = omega (arith, number-sum u v r e) in f)

pub sum_is_add : (u v : Word) → length v ≡ length u → (bit_sum u v false).word ≡ add u v
sum_is_add u v e = word-sum u v false e ∙ ap (bits (length u)) (let f : number u + number v + 0 ≡ number u + number v = omega arith in f)

-- ---- differences

number-inverse : (v : Word) (l : ℕ) → length v ≡ l → number (not_word v) + number v + 1 ≡ 2 ^ l
number-inverse v l e = number-not v ∙ ap (λ n. 2 ^ n) e

pub difference_is_sub : (u v : Word) → length v ≡ length u → (bit_sum u (not_word v) true).word ≡ sub u v
difference_is_sub u v e =
    let below : number v ≤ 1 * 2 ^ length u = omega (arith, number-inverse v (length u) e) in
    let same : number u + number (not_word v) + 1 ≡ number u + (1 * 2 ^ length u - number v) = omega (arith, number-inverse v (length u) e) in
    word-sum u (not_word v) true (length-not v ∙ e) ∙ ap (bits (length u)) same
    ∙ sym (bits_of-difference (length u) (number u) (number v) 1 below)

carry_test : (k : Bool) (N U V P : ℕ) → N < P → V < P → U < P → N + bit k * P + V ≡ U + P → not k ≡ nat_lt U V
carry_test true N U V P h hv hu e = let le : V ≤ U = omega arith in grind (arith, nat_tests)
carry_test false N U V P h hv hu e = sym (lt-ltb U V (omega arith))

-- the carry of a difference is 1 where the first word is not less
pub carry_is_less : (u v : Word) → length v ≡ length u → not (bit_sum u (not_word v) true).carry ≡ less u v
carry_is_less u v e =
    let total = bit_sum u (not_word v) true in
    let f : length (not_word v) ≡ length u = length-not v ∙ e in
    carry_test total.carry (number total.word) (number u) (number v) (2 ^ length u)
    (subst (λ n. number total.word < 2 ^ n) (length-bit_sum u (not_word v) true f) (number_below total.word))
    (subst (λ n. number v < 2 ^ n) e (number_below v)) (number_below u)
    (omega (arith, number-sum u (not_word v) true f, number-inverse v (length u) e))

pub carried_is_carry : (u v : Word) (r : Bool) → bit_carried u v r ≡ (bit_sum u v r).carry
carried_is_carry [] v r = refl
carried_is_carry (a ∷ u) [] r = refl
carried_is_carry (a ∷ u) (b ∷ v) r = ap (carry_bit a b) (carried_is_carry u v r)

pub less_is : (u v : Word) → length v ≡ length u → bit_less u v ≡ less u v
less_is u v e = ap not (carried_is_carry u (not_word v) true) ∙ carry_is_less u v e

-- ---- signed readings

pub length-top_flipped : (w : Word) → length (top_flipped w) ≡ length w
length-top_flipped [] = refl
length-top_flipped (b ∷ w) = refl

above : (b : Bool) (u v : Word) → length v ≡ length u → less (b ∷ u) (b ∷ v) ≡ less u v
above b u v e = rw e (shifted (bit b * 2 ^ length u) (number u) (number v))
  where
    shifted : (k m n : ℕ) → nat_lt (k + m) (k + n) ≡ nat_lt m n
    shifted k m n = grind (arith, nat_tests)

-- signed readings are in the order of the words with their top bits inverted
pub signed_is_less : (u v : Word) → length v ≡ length u → less (top_flipped u) (top_flipped v) ≡ signed_less u v
signed_is_less [] [] e = refl
signed_is_less [] (b ∷ v) e = absurd (omega arith)
signed_is_less (a ∷ u) [] e = absurd (omega arith)
signed_is_less (true ∷ u) (true ∷ v) e =
    let f : length v ≡ length u = omega arith in
    above false u v f ∙ sym (above true u v f) ∙ sym (signed_less_same_sign (true ∷ u) (true ∷ v) (sym e) refl)
signed_is_less (false ∷ u) (false ∷ v) e =
    let f : length v ≡ length u = omega arith in
    above true u v f ∙ sym (above false u v f) ∙ sym (signed_less_same_sign (false ∷ u) (false ∷ v) (sym e) refl)
signed_is_less (true ∷ u) (false ∷ v) e =
    let f : length v ≡ length u = omega arith in
    let low : number u < 1 * 2 ^ length v + number v = omega (arith, subst (λ n. number u < 2 ^ n) (sym f) (number_below u)) in
    lt-ltb (number (false ∷ u)) (number (true ∷ v)) (omega arith)
    ∙ sym (ap₂ int_lt (signed-negative (true ∷ u) refl) (signed-natural (false ∷ v) refl))
signed_is_less (false ∷ u) (true ∷ v) e =
    let f : length v ≡ length u = omega arith in
    let low : number v ≤ 1 * 2 ^ length u + number u = omega (arith, subst (λ n. number v < 2 ^ n) f (number_below v)) in
    not_less (number (true ∷ u)) (number (false ∷ v)) (omega arith)
    ∙ sym (ap₂ int_lt (signed-natural (false ∷ u) refl) (signed-negative (true ∷ v) refl))
  where
    not_less : (m n : ℕ) → n ≤ m → nat_lt m n ≡ false
    not_less m n h = grind (arith, nat_tests)

-- ---- negations

pub negated_is : (r : Bool) (u : Word) → bit_negated r u ≡ bits (length u) (cond r (2 ^ length u - number u) (number u))
negated_is r u =
    let f = flip_bits r u in
    let size : length f ≡ length u = length-flip_bits r u in
    word-sum f (zeros (length f)) r (length-replicate (length f) false)
    ∙ ap₂ bits size (ap₂ (λ m n. m + n + bit r) (ap number (flip_is r u)) (number-zeros (length f)) ∙ sum r)
  where
    sum : (r : Bool) → number (cond r (not_word u) u) + 0 + bit r ≡ cond r (2 ^ length u - number u) (number u)
    sum true = omega (arith, number-not u)
    sum false = omega arith

-- and of the negation of a number as an integer
pub negated_integer : (r : Bool) (u : Word) → bit_negated r u ≡ bits_of_ℤ (length u) (cond r (neg_ℤ (pos (number u))) (pos (number u)))
negated_integer true u =
    let below : number u ≤ 1 * 2 ^ length u = omega (arith, number_below u) in
    let same : 2 ^ length u - number u ≡ 1 * 2 ^ length u - number u = omega arith in
    negated_is true u ∙ ap (bits (length u)) same ∙ sym (bits_of-negated (length u) (number u) 1 below)
negated_integer false u = negated_is false u

-- ---- equality

pub unlike_is : (u v : Word) → length u ≡ length v → any_bit (bitwise xor u v) ≡ not (same_word u v)
unlike_is [] [] e = refl
unlike_is [] (b ∷ v) e = absurd (omega arith)
unlike_is (a ∷ u) [] e = absurd (omega arith)
unlike_is (a ∷ u) (b ∷ v) e = ap (λ t. xor a b || t) (unlike_is u v (omega arith)) ∙ either (xor a b) (same_word u v)
  where
    either : (a b : Bool) → (a || not b) ≡ not (not a && b)
    either true b = refl
    either false b = refl

pub any_is_some : (u : Word) → any_bit u ≡ nat_lt 0 (number u)
any_is_some [] = refl
any_is_some (true ∷ u) = sym (lt-ltb 0 (number (true ∷ u)) (omega (arith, pow_pos (length u))))
any_is_some (false ∷ u) = any_is_some u ∙ ap (nat_lt 0) (let e : number u ≡ 0 * 2 ^ length u + number u = omega arith in e)
