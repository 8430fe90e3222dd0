-- Shifts of words, and of their numbers.
use Rattle.std.proofs.Common.{◌≡◌, refl, sym, ap, ap₂, ◌∙◌, ℕ, zero, suc, ◌+◌, ◌-◌, ◌*◌, ◌/◌, ◌%◌, ◌^◌, ◌<◌, ◌≤◌, inl, inr, min, Bool, true, false, not, ◌∷◌, ◌++◌, length, take, drop, replicate, arith, pow_mono, mod-eq_of_lt, length-append, length-drop, length-take, drop_of_length-le, take_all, append-nil, add-zero, le_refl, pow-add, mul_assoc, lt_of_lt_of_le, lt_of_le_of_lt, div-le_self}
use Rattle.std.proofs.Math.ListN.{length-replicate}
use Rattle.std.proofs.Math.Nat.{div-eq_of_lt, mul-mod_left, min-eq_left, min-eq_right, sub-zero, zero-min}
use Rattle.std.proofs.lemmas.Bool.{cases_lt}
use Rattle.std.proofs.lemmas.List.{map-append, take-map}
use Rattle.std.proofs.lemmas.Nat.{mod-pow-add, shl-shr}
use Rattle.bits_core.specs.Word.{Word, number, bits, sign, zeros, ones, not_word, shift_left, shift_right, shift_right_signed}
use Rattle.bits_core.proofs.Numbers.{number_below, bits_from_number, number-append, number-take, number-drop, number-zeros}
use Rattle.bits_core.proofs.Complement.{length-not, not-not_word}

-- ---- length

pub length-shift_left : (x : Word) (n : ℕ) → length (shift_left x n) ≡ length x
length-shift_left x n =
    omega (arith, length-append (drop n x) (zeros (min n (length x))), length-drop n x, length-replicate (min n (length x)) false)

length-filled : (b : Bool) (x : Word) (n : ℕ) → length (replicate (min n (length x)) b ++ take (length x - n) x) ≡ length x
length-filled b x n =
    omega (arith, length-append (replicate (min n (length x)) b) (take (length x - n) x), length-take (length x - n) x, length-replicate (min n (length x)) b)

pub length-shift_right : (x : Word) (n : ℕ) → length (shift_right x n) ≡ length x
length-shift_right = length-filled false

pub length-shift_right_signed : (x : Word) (n : ℕ) → length (shift_right_signed x n) ≡ length x
length-shift_right_signed x n = length-filled (sign x) x n

-- ---- numbers

-- the rest of a product with a power of 2
shifted-mod : (n j k : ℕ) → n * 2 ^ k % 2 ^ (j + k) ≡ n % 2 ^ j * 2 ^ k
shifted-mod n j k =
    mod-pow-add (n * 2 ^ k) j k
    ∙ ap₂ (λ (a b : ℕ). a % 2 ^ j * 2 ^ k + b) (shl-shr n k) (mul-mod_left n (2 ^ k)) ∙ add-zero (n % 2 ^ j * 2 ^ k)

-- past the width nothing is left
pub shift_left_out : (x : Word) (n : ℕ) → length x ≤ n → shift_left x n ≡ zeros (length x)
shift_left_out x n h = ap₂ (λ (u : Word) (k : ℕ). u ++ zeros k) (drop_of_length-le x h) (min-eq_right h)

filled_out : (b : Bool) (x : Word) (n : ℕ) → length x ≤ n → replicate (min n (length x)) b ++ take (length x - n) x ≡ replicate (length x) b
filled_out b x n h =
    let none : length x - n ≡ 0 = omega arith in
    ap₂ (λ (k l : ℕ). replicate k b ++ take l x) (min-eq_right h) none ∙ append-nil (replicate (length x) b)

pub shift_right_out : (x : Word) (n : ℕ) → length x ≤ n → shift_right x n ≡ zeros (length x)
shift_right_out = filled_out false

pub shift_right_signed_out : (x : Word) (n : ℕ) → length x ≤ n → shift_right_signed x n ≡ replicate (length x) (sign x)
shift_right_signed_out x n h = filled_out (sign x) x n h

number-shift_left_within : (x : Word) (n : ℕ) → n ≤ length x → number (shift_left x n) ≡ number x % 2 ^ (length x - n) * 2 ^ n
number-shift_left_within x n h =
    let zeroes = zeros (min n (length x)) in
    let positions : length zeroes ≡ n = length-replicate (min n (length x)) false ∙ min-eq_left h in
    number-append (drop n x) zeroes
    ∙ ap₂ (λ (a k : ℕ). a * 2 ^ k + number zeroes) (number-drop n x) positions
    ∙ ap (λ (a : ℕ). number x % 2 ^ (length x - n) * 2 ^ n + a) (number-zeros (min n (length x)))
    ∙ add-zero (number x % 2 ^ (length x - n) * 2 ^ n)

-- up is to multiply
pub bits-shift_left : (x : Word) (n : ℕ) → bits (length x) (number x * 2 ^ n) ≡ shift_left x n
bits-shift_left x n =
    elim (cases_lt n (length x)) as (λ _. bits (length x) (number x * 2 ^ n) ≡ shift_left x n) [ inl t ↦ within t | inr t ↦ out t ]
  where
    within : n < length x → bits (length x) (number x * 2 ^ n) ≡ shift_left x n
    within t =
        let whole : length x ≡ (length x - n) + n = omega arith in
        let some : n ≤ length x = omega arith in
        bits_from_number (length x) (number x * 2 ^ n) (shift_left x n) (length-shift_left x n)
        (ap (λ (k : ℕ). number x * 2 ^ n % 2 ^ k) whole ∙ shifted-mod (number x) (length x - n) n
        ∙ sym (number-shift_left_within x n some))

    out : length x ≤ n → bits (length x) (number x * 2 ^ n) ≡ shift_left x n
    out t =
        let whole : n ≡ (n - length x) + length x = omega arith in
        let block : number x * 2 ^ n ≡ number x * 2 ^ (n - length x) * 2 ^ length x =
        ap (λ (k : ℕ). number x * 2 ^ k) whole ∙ ap (λ (p : ℕ). number x * p) (pow-add 2 (n - length x) (length x))
        ∙ sym (mul_assoc (number x) (2 ^ (n - length x)) (2 ^ length x)) in
        bits_from_number (length x) (number x * 2 ^ n) (zeros (length x)) (length-replicate (length x) false)
        (ap (λ (a : ℕ). a % 2 ^ length x) block ∙ mul-mod_left (number x * 2 ^ (n - length x)) (2 ^ length x)
        ∙ sym (number-zeros (length x)))
        ∙ sym (shift_left_out x n t)

-- down is to divide
pub number-shift_right : (x : Word) (n : ℕ) → number (shift_right x n) ≡ number x / 2 ^ n
number-shift_right x n =
    let kept = take (length x - n) x in
    let drops : 0 * 2 ^ length kept + number kept ≡ number kept = omega arith in
    number-append (zeros (min n (length x))) kept
    ∙ ap (λ (a : ℕ). a * 2 ^ length kept + number kept) (number-zeros (min n (length x))) ∙ drops
    ∙ number-take (length x - n) x
    ∙ elim (cases_lt n (length x)) as (λ _. number x / 2 ^ (length x - (length x - n)) ≡ number x / 2 ^ n) [
      | inl t ↦ let e : length x - (length x - n) ≡ n = omega arith in ap (λ (k : ℕ). number x / 2 ^ k) e
      | inr t ↦ let e : length x - (length x - n) ≡ length x = omega arith in
          ap (λ (k : ℕ). number x / 2 ^ k) e ∙ div-eq_of_lt (number_below x)
          ∙ sym (div-eq_of_lt (lt_of_lt_of_le (number_below x) (pow_mono {i = length x} {j = n} t)))
    ]

pub bits-shift_right : (x : Word) (n : ℕ) → bits (length x) (number x / 2 ^ n) ≡ shift_right x n
bits-shift_right x n =
    bits_from_number (length x) (number x / 2 ^ n) (shift_right x n) (length-shift_right x n)
    (mod-eq_of_lt (lt_of_le_of_lt (div-le_self (number x) (2 ^ n)) (number_below x)) ∙ sym (number-shift_right x n))

-- ---- with the sign

pub shift_right_signed-natural : (x : Word) (n : ℕ) → sign x ≡ false → shift_right x n ≡ shift_right_signed x n
shift_right_signed-natural x n h = ap (λ (b : Bool). replicate (min n (length x)) b ++ take (length x - n) x) (sym h)

not-zeros : (n : ℕ) → not_word (zeros n) ≡ ones n
not-zeros zero = refl
not-zeros (suc n) = ap (λ (bs : Word). true ∷ bs) (not-zeros n)

-- a negative word is moved down as its inverse
pub shift_right_signed-negative : (x : Word) (n : ℕ) → sign x ≡ true → not_word (shift_right (not_word x) n) ≡ shift_right_signed x n
shift_right_signed-negative x n h =
    let m = min n (length x) in
    let k = length x - n in
    ap (λ (l : ℕ). not_word (zeros (min n l) ++ take (l - n) (not_word x))) (length-not x)
    ∙ map-append not (zeros m) (take k (not_word x))
    ∙ ap₂ (λ (u v : Word). u ++ v) (not-zeros m) (ap not_word (take-map not k x) ∙ not-not_word (take k x))
    ∙ ap (λ (b : Bool). replicate m b ++ take k x) (sym h)

-- ---- by nothing

pub shift_left-zero : (x : Word) → shift_left x 0 ≡ x
shift_left-zero x = ap (λ (k : ℕ). x ++ zeros k) (zero-min (length x)) ∙ append-nil x

filled-zero : (b : Bool) (x : Word) → replicate (min 0 (length x)) b ++ take (length x - 0) x ≡ x
filled-zero b x =
    ap₂ (λ (k l : ℕ). replicate k b ++ take l x) (zero-min (length x)) (sub-zero (length x))
    ∙ take_all (length x) x (le_refl (length x))

pub shift_right-zero : (x : Word) → shift_right x 0 ≡ x
shift_right-zero = filled-zero false

pub shift_right_signed-zero : (x : Word) → shift_right_signed x 0 ≡ x
shift_right_signed-zero x = filled-zero (sign x) x
