-- Words kept in numbers of 128 bits, whose arithmetic wraps there.
use Rattle.std.proofs.Common.{◌≡◌, sym, ap, ◌∙◌, ℕ, suc, ◌+◌, ◌-◌, ◌*◌, ◌/◌, ◌%◌, ◌^◌, ◌<◌, ◌≤◌, true, false, [], ◌∷◌, length, arith, pow-add, mul_assoc, mul-le-mul_right, pow_pos, bit_or, pos, neg_ℤ, ◌-ℤ◌, mod-eq_of_lt}
use Rattle.std.proofs.lemmas.Int.{ints}
use Rattle.std.proofs.lemmas.Nat.{shr_split, shl_whole, or_shifted}
use Rattle.bits_core.specs.Word.{Word, number, bits, bits_of_ℤ, sign, copies, not_word, zeros}
use Rattle.bits_core.proofs.Numbers.{bits-high, number_below, bits_from_number, number-zeros, length-copies}
use Rattle.bits_core.proofs.Complement.{number-not, length-not, bits_of-difference}
use Rattle.std.proofs.Math.ListN.{length-replicate}
use Rattle.std.proofs.Math.Nat.{zero-mod}

-- a larger power in two factors
power_split : (w k : ℕ) → w ≤ k → 2 ^ (k - w) * 2 ^ w ≡ 2 ^ k
power_split w k h =
    let e : (k - w) + w ≡ k = omega arith in
    sym (pow-add 2 (k - w) w) ∙ ap (λ (n : ℕ). 2 ^ n) e

-- what a wider number wraps does not reach the low bits
pub bits-mod_wide : (w k n : ℕ) → w ≤ k → bits w (n % 2 ^ k) ≡ bits w n
bits-mod_wide w k n h =
    let block : n / 2 ^ k * 2 ^ (k - w) * 2 ^ w + n % 2 ^ k ≡ n =
    ap (λ (m : ℕ). m + n % 2 ^ k) (mul_assoc (n / 2 ^ k) (2 ^ (k - w)) (2 ^ w) ∙ ap (λ (p : ℕ). n / 2 ^ k * p) (power_split w k h))
    ∙ shr_split n k in
    sym (bits-high w (n / 2 ^ k * 2 ^ (k - w)) (n % 2 ^ k)) ∙ ap (bits w) block

pub bits_wrapped : (w n : ℕ) → w ≤ 128 → bits w (n % 2 ^ 128) ≡ bits w n
bits_wrapped w n h = bits-mod_wide w 128 n h

pub bits_wrapped_sub : (w a b : ℕ) → w ≤ 128 → b ≤ 2 ^ 128 → bits w ((a + (2 ^ 128 - b)) % 2 ^ 128) ≡ bits_of_ℤ w (pos a -ℤ pos b)
bits_wrapped_sub w a b h k =
    let whole = power_split w 128 h in
    let within : b ≤ 2 ^ (128 - w) * 2 ^ w = rw whole k in
    bits_wrapped w (a + (2 ^ 128 - b)) h
    ∙ ap (λ (p : ℕ). bits w (a + (p - b))) (sym whole)
    ∙ sym (bits_of-difference w a b (2 ^ (128 - w)) within)

pub bits_wrapped_neg : (w n : ℕ) → w ≤ 128 → n ≤ 2 ^ 128 → bits w ((0 + (2 ^ 128 - n)) % 2 ^ 128) ≡ bits_of_ℤ w (neg_ℤ (pos n))
bits_wrapped_neg w n h k =
    let e : pos 0 -ℤ pos n ≡ neg_ℤ (pos n) = omega (arith, ints) in
    bits_wrapped_sub w 0 n h k ∙ ap (bits_of_ℤ w) e

-- a number moved up and another in its place
pub number_joined : (x y : Word) → length x + length y ≤ 128 → bit_or (number x * 2 ^ length y % 2 ^ 128) (number y) ≡ number x * 2 ^ length y + number y
number_joined x y h =
    ap (λ (n : ℕ). bit_or n (number y)) (shl_whole (number x) (length x) (length y) 128 (number_below x) h)
    ∙ or_shifted (number x) (length y) (number y) (number_below y)

-- all ones without a word are its inverse
pub bits-not : (x : Word) → bits (length x) (2 ^ length x - 1 - number x) ≡ not_word x
bits-not x =
    let n : number (not_word x) ≡ 2 ^ length x - 1 - number x = omega (arith, number-not x) in
    let below : 2 ^ length x - 1 - number x < 2 ^ length x = omega (arith, number_below x) in
    bits_from_number (length x) (2 ^ length x - 1 - number x) (not_word x) (length-not x) (mod-eq_of_lt below ∙ sym n)

pub bits-zero : (w : ℕ) → bits w 0 ≡ zeros w
bits-zero w =
    bits_from_number w 0 (zeros w) (length-replicate w false) (zero-mod (2 ^ w) ∙ sym (number-zeros w))

-- a negative word has a bit
pub number-negative : (x : Word) → sign x ≡ true → 0 < number x
number-negative [] h = cc
number-negative (true ∷ x) h = omega (arith, pow_pos (length x))
number-negative (false ∷ x) h = cc

-- one more copy fits where all do
pub copies_fit : (k n : ℕ) (x : Word) → k < n → n * length x ≤ 128 → length x + length (copies k x) ≤ 128
copies_fit k n x below fits =
    let more : suc k * length x ≤ n * length x = mul-le-mul_right (length x) below in
    omega (arith, length-copies k x)
