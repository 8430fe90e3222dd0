-- Words and the numbers that they stand for.
use Rattle.std.proofs.Common.{◌≡◌, refl, sym, ap, ◌∙◌, ℕ, zero, suc, ◌+◌, ◌-◌, ◌*◌, ◌/◌, ◌%◌, ◌^◌, ◌<◌, ◌≤◌, ◌==◌, Bool, true, false, [], ◌∷◌, ◌++◌, length, take, drop, arith, ap₂, pow_pos, pow-suc, pow-add, mod-eq_of_lt, length-append, length-drop, length-take, take-append-drop}
use Rattle.std.proofs.Math.ListN.{length-replicate}
use Rattle.std.proofs.Math.Nat.{mul-add-div_right, mul-add-mod_self_right}
use Rattle.std.proofs.lemmas.Nat.{shr_split, mod_low, shr_high, field_of}
pub use Rattle.bits_core.specs.Fields.{length-bits, number-bits, number-bits-below}
use Rattle.bits_core.specs.Word.{Word, bit, number, bits, extract, copies, zeros, ones, flag}

-- ---- length

pub length-copies : (n : ℕ) (x : Word) → length (copies n x) ≡ n * length x
length-copies zero x = omega arith
length-copies (suc n) x = omega (arith, length-append x (copies n x), length-copies n x)

-- ---- from numbers to words and back

-- what stands above the low w bits is dropped
pub bits-high : (w c n : ℕ) → bits w (c * 2 ^ w + n) ≡ bits w n
bits-high zero c n = refl
bits-high (suc w) c n =
    let e : c * 2 ^ suc w + n ≡ (c * 2) * 2 ^ w + n = rw pow-suc (omega arith) in
    rw e
    (ap₂ (λ (b : Bool) (bs : Word). b ∷ bs)
    (ap (λ (m : ℕ). m == 1) (ap (λ (m : ℕ). m % 2) (mul-add-div_right (pow_pos w) (c * 2) n) ∙ mul-add-mod_self_right c 2 (n / 2 ^ w)))
    (bits-high w (c * 2) n))

-- so the rest by the power of 2 has the same low bits
pub bits-mod : (w n : ℕ) → bits w (n % 2 ^ w) ≡ bits w n
bits-mod w n = sym (bits-high w (n / 2 ^ w) (n % 2 ^ w)) ∙ ap (bits w) (shr_split n w)

-- each word stands for a number below the power of its length
pub number_below : (x : Word) → number x < 2 ^ length x
number_below [] = omega arith
number_below (true ∷ x) = rw pow-suc (omega (arith, number_below x))
number_below (false ∷ x) = rw pow-suc (omega (arith, number_below x))

-- a bit on top of a word
bit-block : (b : Bool) (k n : ℕ) → n < 2 ^ k → ((bit b * 2 ^ k + n) / 2 ^ k % 2 == 1) ≡ b
bit-block true k n h = rw shr_high refl
bit-block false k n h = rw shr_high refl

-- a word is the word of its number
pub bits-number : (x : Word) → bits (length x) (number x) ≡ x
bits-number [] = refl
bits-number (b ∷ x) =
    ap₂ (λ (b : Bool) (bs : Word). b ∷ bs) (bit-block b (length x) (number x) (number_below x))
    (bits-high (length x) (bit b) (number x) ∙ bits-number x)

-- words of one length and one number are one
pub same_from_number : (x y : Word) → length x ≡ length y → number x ≡ number y → x ≡ y
same_from_number x y l n = sym (bits-number x) ∙ ap₂ bits l n ∙ bits-number y

-- a word is the bits of each number that has its rest
pub bits_from_number : (w n : ℕ) (x : Word) → length x ≡ w → n % 2 ^ w ≡ number x → bits w n ≡ x
bits_from_number w n x l e =
    same_from_number (bits w n) x (length-bits w n ∙ sym l) (number-bits w n ∙ e)

-- ---- parts

pub number-append : (x y : Word) → number (x ++ y) ≡ number x * 2 ^ length y + number y
number-append [] y = omega arith
number-append (b ∷ x) y =
    rw (length-append x y, number-append x y, pow-add 2 (length x) (length y)) (omega arith)

-- the bits of a number in two parts
pub bits-append : (x y : Word) → bits (length x + length y) (number x * 2 ^ length y + number y) ≡ x ++ y
bits-append x y =
    bits_from_number (length x + length y) (number x * 2 ^ length y + number y) (x ++ y) (length-append x y)
    (ap (λ (n : ℕ). n % 2 ^ (length x + length y)) (sym (number-append x y))
    ∙ mod-eq_of_lt (rw length-append at (number_below (x ++ y))))

-- what stands above a word is no part of its bits
pub bits-append_low : (x y : Word) → bits (length y) (number (x ++ y)) ≡ y
bits-append_low x y =
    ap (bits (length y)) (number-append x y) ∙ bits-high (length y) (number x) (number y) ∙ bits-number y

pub number-split : (k : ℕ) (x : Word) → number x ≡ number (take k x) * 2 ^ (length x - k) + number (drop k x)
number-split k x =
    ap number (sym (take-append-drop k x)) ∙ number-append (take k x) (drop k x)
    ∙ ap (λ (n : ℕ). number (take k x) * 2 ^ n + number (drop k x)) (length-drop k x)

number_below-drop : (k : ℕ) (x : Word) → number (drop k x) < 2 ^ (length x - k)
number_below-drop k x = rw length-drop at (number_below (drop k x))

-- to drop the first bits is to keep the rest by the power of those that stay
pub number-drop : (k : ℕ) (x : Word) → number (drop k x) ≡ number x % 2 ^ (length x - k)
number-drop k x =
    sym (ap (λ (n : ℕ). n % 2 ^ (length x - k)) (number-split k x)
    ∙ mod_low (number (take k x)) (length x - k) (number (drop k x)) (number_below-drop k x))

-- to take the first bits is to divide by the power of the others
pub number-take : (k : ℕ) (x : Word) → number (take k x) ≡ number x / 2 ^ (length x - k)
number-take k x =
    sym (ap (λ (n : ℕ). n / 2 ^ (length x - k)) (number-split k x)
    ∙ shr_high (number (take k x)) (length x - k) (number (drop k x)) (number_below-drop k x))

pub length-extract : (low width : ℕ) (x : Word) → low + width ≤ length x → length (extract low width x) ≡ width
length-extract low width x h =
    omega (arith, length-take width (drop (length x - (low + width)) x), length-drop (length x - (low + width)) x)

pub number-extract : (low width : ℕ) (x : Word) → low + width ≤ length x → number (extract low width x) ≡ number x / 2 ^ low % 2 ^ width
number-extract low width x h =
    let k = length x - (low + width) in
    let high : length (drop k x) - width ≡ low = omega (arith, length-drop k x) in
    let kept : length x - k ≡ width + low = omega arith in
    number-take width (drop k x)
    ∙ ap (λ (n : ℕ). number (drop k x) / 2 ^ n) high
    ∙ ap (λ (n : ℕ). n / 2 ^ low) (number-drop k x ∙ ap (λ (n : ℕ). number x % 2 ^ n) kept)
    ∙ field_of (number x) width low

pub bits-extract : (low width : ℕ) (x : Word) → low + width ≤ length x → bits width (number x / 2 ^ low) ≡ extract low width x
bits-extract low width x h =
    bits_from_number width (number x / 2 ^ low) (extract low width x) (length-extract low width x h)
    (sym (number-extract low width x h))

-- the copies of a word, each above the last
pub number-copies : (n : ℕ) (x : Word) → number (copies (suc n) x) ≡ number x * 2 ^ (n * length x) + number (copies n x)
number-copies n x =
    number-append x (copies n x) ∙ ap (λ (k : ℕ). number x * 2 ^ k + number (copies n x)) (length-copies n x)

pub number-zeros : (n : ℕ) → number (zeros n) ≡ 0
number-zeros zero = refl
number-zeros (suc n) = omega (arith, number-zeros n)

pub number-ones : (n : ℕ) → number (ones n) + 1 ≡ 2 ^ n
number-ones zero = refl
number-ones (suc n) = rw pow-suc (omega (arith, number-ones n, ap (λ (k : ℕ). 2 ^ k) (length-replicate n true)))

pub number-flag : (b : Bool) → number (flag b) ≡ bit b
number-flag true = refl
number-flag false = refl
