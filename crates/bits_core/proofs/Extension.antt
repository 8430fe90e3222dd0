-- Words extended above, by bits of 0 or by copies of the sign, and wider words cut to their low bits.
use Rattle.std.proofs.Common.{◌≡◌, refl, sym, ap, ap₂, ◌∙◌, ℕ, zero, suc, ◌+◌, ◌*◌, ◌/◌, ◌%◌, ◌^◌, ◌==◌, Bool, true, false, ◌∷◌, ◌++◌, length, take, drop, replicate, arith, pow-suc, zero-add, suc-add, add_comm, pos, negsuc, shr-shr, drop_at, take_at}
use Rattle.std.proofs.Math.ListN.{length-replicate}
use Rattle.bits_core.specs.Word.{Word, bit, number, bits, signed, zeros, ones, flag}
use Rattle.bits_core.proofs.Numbers.{length-bits, number-append, number-zeros, number-ones, same_from_number}
use Rattle.bits_core.proofs.Complement.{signed-negative}

-- the bits of a number, in a high and a low part
pub bits-add : (k w n : ℕ) → bits (k + w) n ≡ bits k (n / 2 ^ w) ++ bits w n
bits-add zero w n = ap (λ (m : ℕ). bits m n) (zero-add w)
bits-add (suc k) w n =
    let high : n / 2 ^ (k + w) ≡ n / 2 ^ w / 2 ^ k =
    sym (shr-shr n w k ∙ ap (λ (m : ℕ). n / 2 ^ m) (add_comm w k)) in
    ap (λ (m : ℕ). bits m n) (suc-add k w)
    ∙ ap₂ (λ (m : ℕ) (bs : Word). (m % 2 == 1) ∷ bs) high (bits-add k w n)

-- a wider word of a number ends with the narrower one
pub drop-bits : (k w n : ℕ) → drop k (bits (k + w) n) ≡ bits w n
drop-bits k w n =
    ap (drop k) (bits-add k w n) ∙ drop_at (bits k (n / 2 ^ w)) (bits w n) k (length-bits k (n / 2 ^ w))

pub take-bits : (k w n : ℕ) → take k (bits (k + w) n) ≡ bits k (n / 2 ^ w)
take-bits k w n =
    ap (take k) (bits-add k w n) ∙ take_at (bits k (n / 2 ^ w)) (bits w n) k (length-bits k (n / 2 ^ w))

-- bits of 0 above a word leave its number
pub number-zero_extended : (k : ℕ) (x : Word) → number (zeros k ++ x) ≡ number x
number-zero_extended k x =
    let none : 0 * 2 ^ length x + number x ≡ number x = omega arith in
    number-append (zeros k) x ∙ ap (λ (a : ℕ). a * 2 ^ length x + number x) (number-zeros k) ∙ none

-- one more copy of the sign leaves the signed reading
signed-copied : (b : Bool) (x : Word) → signed (b ∷ b ∷ x) ≡ signed (b ∷ x)
signed-copied false x = ap pos (omega arith)
signed-copied true x =
    let double : 2 ^ suc (length x) ≡ 2 ^ length x * 2 = pow-suc 2 (length x) in
    let again : 2 ^ suc (suc (length x)) ≡ 2 ^ suc (length x) * 2 = pow-suc 2 (suc (length x)) in
    signed-negative (true ∷ true ∷ x) refl ∙ ap negsuc (omega arith) ∙ sym (signed-negative (true ∷ x) refl)

-- copies of the sign above a word leave its signed reading
pub signed-sign_extended : (k : ℕ) (b : Bool) (x : Word) → signed (replicate k b ++ b ∷ x) ≡ signed (b ∷ x)
signed-sign_extended zero b x = refl
signed-sign_extended (suc zero) b x = signed-copied b x
signed-sign_extended (suc (suc k)) b x =
    signed-copied b (replicate k b ++ b ∷ x) ∙ signed-sign_extended (suc k) b x

-- the word whose number is 0
pub zeros_from_number : (x : Word) → number x ≡ 0 → x ≡ zeros (length x)
zeros_from_number x h =
    same_from_number x (zeros (length x)) (sym (length-replicate (length x) false)) (h ∙ sym (number-zeros (length x)))

-- the word whose number is the greatest
pub ones_from_number : (x : Word) → number x + 1 ≡ 2 ^ length x → x ≡ ones (length x)
ones_from_number x h =
    same_from_number x (ones (length x)) (sym (length-replicate (length x) true)) (omega (arith, number-ones (length x)))

pub bits-bit : (b : Bool) → bits 1 (bit b) ≡ flag b
bits-bit true = refl
bits-bit false = refl
