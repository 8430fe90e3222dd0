-- Arithmetic on words is arithmetic on the integers that they stand for, signed or not.
use Rattle.std.proofs.Common.{◌≡◌, refl, sym, ap, ap₂, ◌∙◌, ℕ, zero, suc, ◌+◌, ◌-◌, ◌*◌, ◌/◌, ◌%◌, ◌^◌, ◌<◌, ◌≤◌, Bool, true, false, length, arith, pow_pos, le-mul_of_pos_right, mul_assoc, mul_comm, mul-suc, add-sub_cancel, zero-mul, div-add-mod', ℤ, pos, negsuc, neg_ℤ, ◌+ℤ◌, ◌-ℤ◌, ◌*ℤ◌, int_div, int_rem}
use Rattle.std.proofs.Math.Nat.{mul-sub, mul-mul-mul_comm, mod-one}
use Rattle.std.proofs.lemmas.Int.{ints}
use Rattle.bits_core.specs.Word.{Word, bit, number, bits, sign, signed, bits_of_ℤ, not_word, add, sub, mul, signed_quotient, signed_rest}
use Rattle.bits_core.proofs.Arithmetic.{add-bits, mul-bits, bits_from_rest, mul_words_comm}
use Rattle.bits_core.proofs.Numbers.{bits-high, number_below, length-bits}
use Rattle.bits_core.proofs.Complement.{not-bits, length-not, bits_of-negated, bits_of-signed, signed-natural, signed-negative}

-- an integer and a number that lies some powers above it have the same low bits
pub bits_of-above : (w : ℕ) (z : ℤ) (m k : ℕ) → z +ℤ pos (k * 2 ^ w) ≡ pos m → bits_of_ℤ w z ≡ bits w m
bits_of-above w (pos n) m k e =
    let whole : k * 2 ^ w + n ≡ m = omega (arith, ints) in
    sym (bits-high w k n) ∙ ap (bits w) whole
bits_of-above w (negsuc n) m k e = not-bits w n m k (omega (arith, ints))

-- each integer has such a number
pub above : (w : ℕ) (z : ℤ) → (m : ℕ) × ((k : ℕ) × (z +ℤ pos (k * 2 ^ w) ≡ pos m))
above w (pos n) = (n, (0, omega (arith, ints)))
above w (negsuc n) =
    let within : suc n ≤ suc n * 2 ^ w = le-mul_of_pos_right (suc n) (pow_pos w) in
    (suc n * 2 ^ w - suc n, (suc n, omega (arith, ints)))

-- the bits of a sum
pub bits_of-sum : (w : ℕ) (y z : ℤ) → bits_of_ℤ w (y +ℤ z) ≡ add (bits_of_ℤ w y) (bits_of_ℤ w z)
bits_of-sum w y z = go (above w y) (above w z)
  where
    go : (m : ℕ) × ((k : ℕ) × (y +ℤ pos (k * 2 ^ w) ≡ pos m)) → (n : ℕ) × ((k : ℕ) × (z +ℤ pos (k * 2 ^ w) ≡ pos n)) → bits_of_ℤ w (y +ℤ z) ≡ add (bits_of_ℤ w y) (bits_of_ℤ w z)
    go (m, (k, e)) (n, (l, f)) =
        bits_of-above w (y +ℤ z) (m + n) (k + l) (omega (arith, ints))
        ∙ sym (ap₂ add (bits_of-above w y m k e) (bits_of-above w z n l f) ∙ add-bits w m n)

-- integers that some powers make equal have the same low bits
pub bits_of-congruent : (w : ℕ) (y z : ℤ) (j k : ℕ) → y +ℤ pos (j * 2 ^ w) ≡ z +ℤ pos (k * 2 ^ w) → bits_of_ℤ w y ≡ bits_of_ℤ w z
bits_of-congruent w y z j k same = go (above w y)
  where
    go : (m : ℕ) × ((i : ℕ) × (y +ℤ pos (i * 2 ^ w) ≡ pos m)) → bits_of_ℤ w y ≡ bits_of_ℤ w z
    go (m, (i, e)) =
        bits_of-above w y m i e ∙ sym (bits-high w j m)
        ∙ sym (bits_of-above w z (j * 2 ^ w + m) (k + i) (omega (arith, ints)))

-- the bits of a product: of two natural numbers, of one and a negative one, and of two negative ones
product-natural : (w a b : ℕ) → bits_of_ℤ w (pos a *ℤ pos b) ≡ mul (bits_of_ℤ w (pos a)) (bits_of_ℤ w (pos b))
product-natural w a b = sym (mul-bits w a b)

-- the number that stands some powers above a negative one
raised : (w b : ℕ) → not_word (bits w b) ≡ bits w (suc b * 2 ^ w - suc b)
raised w b =
    let within : suc b ≤ suc b * 2 ^ w = le-mul_of_pos_right (suc b) (pow_pos w) in
    not-bits w b (suc b * 2 ^ w - suc b) (suc b) (omega arith)

product-mixed : (w a b : ℕ) → bits_of_ℤ w (pos a *ℤ negsuc b) ≡ mul (bits_of_ℤ w (pos a)) (bits_of_ℤ w (negsuc b))
product-mixed w a b =
    bits_of-negated w (a * suc b) (a * suc b) (le-mul_of_pos_right (a * suc b) (pow_pos w))
    ∙ ap (bits w) (ap (λ (n : ℕ). n - a * suc b) (mul_assoc a (suc b) (2 ^ w)) ∙ sym (mul-sub a (suc b * 2 ^ w) (suc b)))
    ∙ sym (ap (mul (bits w a)) (raised w b) ∙ mul-bits w a (suc b * 2 ^ w - suc b))

-- the square of all ones is 1
squared : (w n q : ℕ) → 2 ^ w ≡ suc q → bits w (n * (q * q)) ≡ bits w n
squared w n zero e =
    bits_from_rest w (n * (zero * zero)) n
    (ap (λ (p : ℕ). n * (zero * zero) % p) e ∙ mod-one (n * (zero * zero)) ∙ sym (ap (λ (p : ℕ). n % p) e ∙ mod-one n))
squared w n (suc r) e =
    let whole : n * (suc r * suc r) ≡ n * r * suc (suc r) + n = omega arith in
    ap (bits w) (whole ∙ ap (λ (p : ℕ). n * r * p + n) (sym e)) ∙ bits-high w (n * r) n

-- all ones of a number of powers, without it
below_power : (a p q : ℕ) → p ≡ suc q → suc a * p - suc a ≡ suc a * q
below_power a p q e =
    ap (λ (k : ℕ). suc a * k - suc a) e ∙ ap (λ (k : ℕ). k - suc a) (mul-suc (suc a) q) ∙ add-sub_cancel (suc a * q) (suc a)

product-negative : (w a b : ℕ) → bits_of_ℤ w (negsuc a *ℤ negsuc b) ≡ mul (bits_of_ℤ w (negsuc a)) (bits_of_ℤ w (negsuc b))
product-negative w a b =
    let q = 2 ^ w - 1 in
    let e : 2 ^ w ≡ suc q = omega (arith, pow_pos w) in
    sym (ap₂ mul (raised w a) (raised w b) ∙ mul-bits w (suc a * 2 ^ w - suc a) (suc b * 2 ^ w - suc b)
    ∙ ap₂ (λ (m n : ℕ). bits w (m * n)) (below_power a (2 ^ w) q e) (below_power b (2 ^ w) q e)
    ∙ ap (bits w) (mul-mul-mul_comm (suc a) q (suc b) q) ∙ squared w (suc a * suc b) q e)

pub bits_of-product : (w : ℕ) (y z : ℤ) → bits_of_ℤ w (y *ℤ z) ≡ mul (bits_of_ℤ w y) (bits_of_ℤ w z)
bits_of-product w (pos a) (pos b) = product-natural w a b
bits_of-product w (pos a) (negsuc b) = product-mixed w a b
bits_of-product w (negsuc a) (pos b) =
    let one_width : length (bits w b) ≡ length (not_word (bits w a)) = length-bits w b ∙ sym (length-not (bits w a) ∙ length-bits w a) in
    ap (λ (n : ℕ). bits_of_ℤ w (neg_ℤ (pos n))) (mul_comm (suc a) b)
    ∙ product-mixed w b a ∙ mul_words_comm (bits w b) (not_word (bits w a)) one_width
bits_of-product w (negsuc a) (negsuc b) = product-negative w a b

-- ---- signed readings

-- the number of a word is its signed reading, and the power where the top bit is 1
pub signed-above : (x : Word) → signed x +ℤ pos (bit (sign x) * 2 ^ length x) ≡ pos (number x)
signed-above x = go (sign x) refl
  where
    negative_above : (n p : ℕ) → n < p → negsuc (p - 1 - n) +ℤ pos (1 * p) ≡ pos n
    negative_above n p h = omega (arith, ints)

    natural_above : (n p : ℕ) → pos n +ℤ pos (0 * p) ≡ pos n
    natural_above n p = omega (arith, ints)

    go : (b : Bool) → sign x ≡ b → signed x +ℤ pos (bit (sign x) * 2 ^ length x) ≡ pos (number x)
    go true h =
        ap₂ (λ (z : ℤ) (b : Bool). z +ℤ pos (bit b * 2 ^ length x)) (signed-negative x h) h
        ∙ negative_above (number x) (2 ^ length x) (number_below x)
    go false h =
        ap₂ (λ (z : ℤ) (b : Bool). z +ℤ pos (bit b * 2 ^ length x)) (signed-natural x h) h
        ∙ natural_above (number x) (2 ^ length x)

-- a sum of words is the sum of their signed readings, and likewise a difference and a product
pub add-signed : (x y : Word) → length x ≡ length y → add x y ≡ bits_of_ℤ (length x) (signed x +ℤ signed y)
add-signed x y l =
    sym (bits_of-sum (length x) (signed x) (signed y)
    ∙ ap₂ add (bits_of-signed x) (ap (λ (w : ℕ). bits_of_ℤ w (signed y)) l ∙ bits_of-signed y))

pub sub-signed : (x y : Word) → length x ≡ length y → sub x y ≡ bits_of_ℤ (length x) (signed x -ℤ signed y)
sub-signed x y l =
    let power : bit (sign y) * 2 ^ length y ≡ bit (sign y) * 2 ^ length x = ap (λ (w : ℕ). bit (sign y) * 2 ^ w) (sym l) in
    bits_of-congruent (length x) (pos (number x) -ℤ pos (number y)) (signed x -ℤ signed y) (bit (sign y)) (bit (sign x))
    (omega (arith, ints, signed-above x, signed-above y, power))

pub mul-signed : (x y : Word) → length x ≡ length y → mul x y ≡ bits_of_ℤ (length x) (signed x *ℤ signed y)
mul-signed x y l =
    sym (bits_of-product (length x) (signed x) (signed y)
    ∙ ap₂ mul (bits_of-signed x) (ap (λ (w : ℕ). bits_of_ℤ w (signed y)) l ∙ bits_of-signed y))

-- ---- signed quotients

negative_sum : (m n : ℕ) → neg_ℤ (pos m) +ℤ neg_ℤ (pos n) ≡ neg_ℤ (pos (m + n))
negative_sum m n = omega (arith, ints)

negated_product : (m n : ℕ) → neg_ℤ (pos m) *ℤ pos n ≡ neg_ℤ (pos (m * n))
negated_product zero n = ap pos (zero-mul n) ∙ sym (ap (λ (k : ℕ). neg_ℤ (pos k)) (zero-mul n))
negated_product (suc m) n = refl

negated_product_negative : (m n : ℕ) → neg_ℤ (pos m) *ℤ negsuc n ≡ pos (m * suc n)
negated_product_negative zero n = ap (λ (k : ℕ). neg_ℤ (pos k)) (zero-mul (suc n)) ∙ sym (ap pos (zero-mul (suc n)))
negated_product_negative (suc m) n = refl

quotient_and_rest : (z d : ℤ) → int_div z d *ℤ d +ℤ int_rem z d ≡ z
quotient_and_rest (pos a) (pos b) = ap pos (div-add-mod' a b)
quotient_and_rest (pos a) (negsuc b) =
    ap (λ (z : ℤ). z +ℤ pos (a % suc b)) (negated_product_negative (a / suc b) b) ∙ ap pos (div-add-mod' a (suc b))
quotient_and_rest (negsuc a) (pos b) =
    ap (λ (z : ℤ). z +ℤ neg_ℤ (pos (suc a % b))) (negated_product (suc a / b) b)
    ∙ negative_sum (suc a / b * b) (suc a % b) ∙ ap (λ (n : ℕ). neg_ℤ (pos n)) (div-add-mod' (suc a) b)
quotient_and_rest (negsuc a) (negsuc b) =
    negative_sum (suc a / suc b * suc b) (suc a % suc b) ∙ ap (λ (n : ℕ). neg_ℤ (pos n)) (div-add-mod' (suc a) (suc b))

-- the signed quotient and its rest make the dividend
pub signed_quotient-rest : (x y : Word) → length x ≡ length y → add (mul (signed_quotient x y) y) (signed_rest x y) ≡ x
signed_quotient-rest x y l =
    ap (λ (s : Word). add (mul (signed_quotient x y) s) (signed_rest x y)) (sym (ap (λ (w : ℕ). bits_of_ℤ w (signed y)) l ∙ bits_of-signed y))
    ∙ ap (λ (s : Word). add s (signed_rest x y)) (sym (bits_of-product (length x) (int_div (signed x) (signed y)) (signed y)))
    ∙ sym (bits_of-sum (length x) (int_div (signed x) (signed y) *ℤ signed y) (int_rem (signed x) (signed y)))
    ∙ ap (bits_of_ℤ (length x)) (quotient_and_rest (signed x) (signed y)) ∙ bits_of-signed x
