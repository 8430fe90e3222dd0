-- Laws of arithmetic on words.
use Rattle.std.proofs.Common.{◌≡◌, refl, sym, ap, ap₂, ◌∙◌, ℕ, suc, ◌+◌, ◌-◌, ◌*◌, ◌/◌, ◌%◌, ◌^◌, ◌<◌, ◌≤◌, true, false, [], ◌∷◌, length, arith, pow_pos, ℤ, pos, negsuc, neg_ℤ, ◌-ℤ◌, add_comm, add_assoc, mul_comm, mul_assoc, mul-add, add-zero, mul-one, mul-zero, div-one, div-add-mod', pow-suc, zero-le, le_refl, int_div, int_rem}
use Rattle.std.proofs.Math.Nat.{mod-add-mod, add-mod-mod, mod-one, sub-zero, sub_self}
use Rattle.std.proofs.lemmas.Int.{ints}
use Rattle.std.proofs.lemmas.Nat.{mul-mod_first, mul-mod_second}
use Rattle.bits_core.specs.Word.{Word, number, bits, signed, bits_of_ℤ, zeros, add, sub, mul, quotient, rest, signed_quotient, signed_rest}
use Rattle.bits_core.proofs.Numbers.{length-bits, number-bits, number-bits-below, number_below, bits-number, bits-mod, bits-high, number-zeros}
use Rattle.bits_core.proofs.Complement.{length-bits_of_ℤ, difference-natural, bits_of-difference, bits_of-signed, signed-bits_of_ℤ}
use Rattle.bits_core.proofs.Storage.{bits-zero}

-- ---- lengths

pub length-add : (x y : Word) → length (add x y) ≡ length x
length-add x y = length-bits (length x) (number x + number y)

pub length-sub : (x y : Word) → length (sub x y) ≡ length x
length-sub x y = length-bits_of_ℤ (length x) (pos (number x) -ℤ pos (number y))

pub length-mul : (x y : Word) → length (mul x y) ≡ length x
length-mul x y = length-bits (length x) (number x * number y)

pub length-quotient : (x y : Word) → length (quotient x y) ≡ length x
length-quotient x y = length-bits (length x) (number x / number y)

pub length-rest : (x y : Word) → length (rest x y) ≡ length x
length-rest x y = length-bits (length x) (number x % number y)

pub length-signed_quotient : (x y : Word) → length (signed_quotient x y) ≡ length x
length-signed_quotient x y = length-bits_of_ℤ (length x) _

pub length-signed_rest : (x y : Word) → length (signed_rest x y) ≡ length x
length-signed_rest x y = length-bits_of_ℤ (length x) _

-- ---- numbers with one rest have one word

pub bits_from_rest : (w m n : ℕ) → m % 2 ^ w ≡ n % 2 ^ w → bits w m ≡ bits w n
bits_from_rest w m n e = sym (bits-mod w m) ∙ ap (bits w) e ∙ bits-mod w n

-- the high digits of a summand and of a factor do not reach the low bits
bits-add_left : (w m n : ℕ) → bits w (m % 2 ^ w + n) ≡ bits w (m + n)
bits-add_left w m n = bits_from_rest w (m % 2 ^ w + n) (m + n) (mod-add-mod m (2 ^ w) n)

bits-add_right : (w m n : ℕ) → bits w (m + n % 2 ^ w) ≡ bits w (m + n)
bits-add_right w m n = bits_from_rest w (m + n % 2 ^ w) (m + n) (add-mod-mod m n (2 ^ w))

bits-mul_left : (w m n : ℕ) → bits w (m % 2 ^ w * n) ≡ bits w (m * n)
bits-mul_left w m n = bits_from_rest w (m % 2 ^ w * n) (m * n) (mul-mod_first m n (2 ^ w))

bits-mul_right : (w m n : ℕ) → bits w (m * (n % 2 ^ w)) ≡ bits w (m * n)
bits-mul_right w m n = bits_from_rest w (m * (n % 2 ^ w)) (m * n) (mul-mod_second m n (2 ^ w))

-- a word of bits with another word
pub add-bits_left : (w m : ℕ) (y : Word) → add (bits w m) y ≡ bits w (m + number y)
add-bits_left w m y =
    ap₂ (λ (k a : ℕ). bits k (a + number y)) (length-bits w m) (number-bits w m) ∙ bits-add_left w m (number y)

pub mul-bits_left : (w m : ℕ) (y : Word) → mul (bits w m) y ≡ bits w (m * number y)
mul-bits_left w m y =
    ap₂ (λ (k a : ℕ). bits k (a * number y)) (length-bits w m) (number-bits w m) ∙ bits-mul_left w m (number y)

-- the bits of a sum and of a product
pub add-bits : (w m n : ℕ) → add (bits w m) (bits w n) ≡ bits w (m + n)
add-bits w m n =
    add-bits_left w m (bits w n) ∙ ap (λ (k : ℕ). bits w (m + k)) (number-bits w n) ∙ bits-add_right w m n

pub mul-bits : (w m n : ℕ) → mul (bits w m) (bits w n) ≡ bits w (m * n)
mul-bits w m n =
    mul-bits_left w m (bits w n) ∙ ap (λ (k : ℕ). bits w (m * k)) (number-bits w n) ∙ bits-mul_right w m n

pub number-add : (x y : Word) → number (add x y) ≡ (number x + number y) % 2 ^ length x
number-add x y = number-bits (length x) (number x + number y)

pub number-mul : (x y : Word) → number (mul x y) ≡ (number x * number y) % 2 ^ length x
number-mul x y = number-bits (length x) (number x * number y)

number_at_width : (w v n : ℕ) → w ≡ v → number (bits v n) ≡ n % 2 ^ w
number_at_width w v n l = number-bits v n ∙ ap (λ (k : ℕ). n % 2 ^ k) (sym l)

-- ---- sums

pub add_words_comm : (x y : Word) → length x ≡ length y → add x y ≡ add y x
add_words_comm x y l = ap₂ bits l (add_comm (number x) (number y))

pub add_words_assoc : (x y z : Word) → length x ≡ length y → add (add x y) z ≡ add x (add y z)
add_words_assoc x y z l =
    add-bits_left (length x) (number x + number y) z
    ∙ ap (bits (length x)) (add_assoc (number x) (number y) (number z))
    ∙ sym (ap (λ (k : ℕ). bits (length x) (number x + k)) (number_at_width (length x) (length y) (number y + number z) l)
    ∙ bits-add_right (length x) (number x) (number y + number z))

pub add_words-zeros : (x : Word) (n : ℕ) → add x (zeros n) ≡ x
add_words-zeros x n =
    ap (λ (k : ℕ). bits (length x) (number x + k)) (number-zeros n)
    ∙ ap (bits (length x)) (add-zero (number x)) ∙ bits-number x

-- ---- products

pub mul_words_comm : (x y : Word) → length x ≡ length y → mul x y ≡ mul y x
mul_words_comm x y l = ap₂ bits l (mul_comm (number x) (number y))

pub mul_words_assoc : (x y z : Word) → length x ≡ length y → mul (mul x y) z ≡ mul x (mul y z)
mul_words_assoc x y z l =
    mul-bits_left (length x) (number x * number y) z
    ∙ ap (bits (length x)) (mul_assoc (number x) (number y) (number z))
    ∙ sym (ap (λ (k : ℕ). bits (length x) (number x * k)) (number_at_width (length x) (length y) (number y * number z) l)
    ∙ bits-mul_right (length x) (number x) (number y * number z))

-- 1 has a bit in each word that has one
pub number-one : (w : ℕ) → number (bits (suc w) 1) ≡ 1
number-one w = number-bits-below (suc w) 1 (rw pow-suc (omega (arith, pow_pos w)))

pub mul_words-one : (x : Word) → mul x (bits (length x) 1) ≡ x
mul_words-one [] = refl
mul_words-one (b ∷ x) =
    ap (λ (k : ℕ). bits (suc (length x)) (number (b ∷ x) * k)) (number-one (length x))
    ∙ ap (bits (suc (length x))) (mul-one (number (b ∷ x))) ∙ bits-number (b ∷ x)

pub mul_words-zeros : (x : Word) (n : ℕ) → mul x (zeros n) ≡ zeros (length x)
mul_words-zeros x n =
    ap (λ (k : ℕ). bits (length x) (number x * k)) (number-zeros n)
    ∙ ap (bits (length x)) (mul-zero (number x)) ∙ bits-zero (length x)

pub mul_words-add : (x y z : Word) → length x ≡ length y → mul x (add y z) ≡ add (mul x y) (mul x z)
mul_words-add x y z l =
    ap (λ (k : ℕ). bits (length x) (number x * k)) (number_at_width (length x) (length y) (number y + number z) l)
    ∙ bits-mul_right (length x) (number x) (number y + number z)
    ∙ ap (bits (length x)) (mul-add (number x) (number y) (number z))
    ∙ sym (add-bits (length x) (number x * number y) (number x * number z))

-- ---- differences

pub sub_words-zeros : (x : Word) (n : ℕ) → sub x (zeros n) ≡ x
sub_words-zeros x n =
    ap (λ (k : ℕ). bits_of_ℤ (length x) (pos (number x) -ℤ pos k)) (number-zeros n)
    ∙ ap (bits_of_ℤ (length x)) (difference-natural (number x) 0 zero-le)
    ∙ ap (bits (length x)) (sub-zero (number x)) ∙ bits-number x

pub sub_words_self : (x : Word) → sub x x ≡ zeros (length x)
sub_words_self x =
    ap (bits_of_ℤ (length x)) (difference-natural (number x) (number x) (le_refl (number x)))
    ∙ ap (bits (length x)) (sub_self (number x)) ∙ bits-zero (length x)

-- a difference is the number that makes the sum
pub sub-add : (x y : Word) → length x ≡ length y → add (sub x y) y ≡ x
sub-add x y l =
    let within : number y ≤ 1 * 2 ^ length x = omega (arith, number_below y, ap (λ (k : ℕ). 2 ^ k) l) in
    let whole : number x + (1 * 2 ^ length x - number y) + number y ≡ 1 * 2 ^ length x + number x = omega arith in
    ap (λ (s : Word). add s y) (bits_of-difference (length x) (number x) (number y) 1 within)
    ∙ add-bits_left (length x) (number x + (1 * 2 ^ length x - number y)) y
    ∙ ap (bits (length x)) whole ∙ bits-high (length x) 1 (number x) ∙ bits-number x

-- ---- quotients

pub quotient_words-one : (x : Word) → quotient x (bits (length x) 1) ≡ x
quotient_words-one [] = refl
quotient_words-one (b ∷ x) =
    ap (λ (k : ℕ). bits (suc (length x)) (number (b ∷ x) / k)) (number-one (length x))
    ∙ ap (bits (suc (length x))) (div-one (number (b ∷ x))) ∙ bits-number (b ∷ x)

pub rest_words-one : (x : Word) → rest x (bits (length x) 1) ≡ zeros (length x)
rest_words-one [] = refl
rest_words-one (b ∷ x) =
    ap (λ (k : ℕ). bits (suc (length x)) (number (b ∷ x) % k)) (number-one (length x))
    ∙ ap (bits (suc (length x))) (mod-one (number (b ∷ x))) ∙ bits-zero (suc (length x))

-- quotient and rest make the dividend
pub quotient-rest : (x y : Word) → add (mul (quotient x y) y) (rest x y) ≡ x
quotient-rest x y =
    ap (λ (s : Word). add s (rest x y)) (mul-bits_left (length x) (number x / number y) y)
    ∙ add-bits (length x) (number x / number y * number y) (number x % number y)
    ∙ ap (bits (length x)) (div-add-mod' (number x) (number y)) ∙ bits-number x

-- ---- signed quotients by 1

divided_by_one : (z : ℤ) → int_div z (pos 1) ≡ z
divided_by_one (pos a) = ap pos (div-one a)
divided_by_one (negsuc a) = ap (λ (n : ℕ). neg_ℤ (pos n)) (div-one (suc a))

rest_by_one : (z : ℤ) → int_rem z (pos 1) ≡ pos 0
rest_by_one (pos a) = ap pos (mod-one a)
rest_by_one (negsuc a) = ap (λ (n : ℕ). neg_ℤ (pos n)) (mod-one (suc a))

signed-one : (w : ℕ) → signed (bits (suc (suc w)) 1) ≡ pos 1
signed-one w =
    let some : 1 < 2 ^ suc w = rw pow-suc (omega (arith, pow_pos w)) in
    signed-bits_of_ℤ (suc w) (pos 1) (omega (arith, ints)) (omega (arith, ints))

-- at one bit the word 1 is read as -1, and the quotient wraps to the dividend
pub signed_quotient_words-one : (x : Word) → signed_quotient x (bits (length x) 1) ≡ x
signed_quotient_words-one [] = refl
signed_quotient_words-one (true ∷ []) = refl
signed_quotient_words-one (false ∷ []) = refl
signed_quotient_words-one (a ∷ b ∷ x) =
    ap (λ (d : ℤ). bits_of_ℤ (suc (suc (length x))) (int_div (signed (a ∷ b ∷ x)) d)) (signed-one (length x))
    ∙ ap (bits_of_ℤ (suc (suc (length x)))) (divided_by_one (signed (a ∷ b ∷ x))) ∙ bits_of-signed (a ∷ b ∷ x)

pub signed_rest_words-one : (x : Word) → signed_rest x (bits (length x) 1) ≡ zeros (length x)
signed_rest_words-one [] = refl
signed_rest_words-one (true ∷ []) = refl
signed_rest_words-one (false ∷ []) = refl
signed_rest_words-one (a ∷ b ∷ x) =
    ap (λ (d : ℤ). bits_of_ℤ (suc (suc (length x))) (int_rem (signed (a ∷ b ∷ x)) d)) (signed-one (length x))
    ∙ ap (bits_of_ℤ (suc (suc (length x)))) (rest_by_one (signed (a ∷ b ∷ x))) ∙ bits-zero (suc (suc (length x)))
