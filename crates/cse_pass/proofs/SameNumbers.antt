-- Numbers that the low bits of integers stand for.
use Rattle.std.proofs.Common.{◌≡◌, ℕ, ◌+◌, ◌-◌, ◌*◌, ◌%◌, ◌^◌, ◌<◌, ◌≤◌, Bool, true, false, nat_eq, nat_le, map, not, refl, sym, ap, ◌∙◌, ne_eqb, eq-eqb, arith}
use Rattle.std.proofs.lemmas.Bool.{eqb-true, eqb-false, leb-true, leb-false}
use Rattle.std.proofs.lemmas.Nat.{pow-add, pow_pos, mod-mul-add}
use Rattle.std.proofs.Math.Nat.{pow-le-pow_right, mod-eq_of_lt, mod-le}
use Rattle.bits_core.specs.Word.{number, bits}
use Rattle.bits_core.proofs.Numbers.{length-bits, number-bits}
use Rattle.bits_core.proofs.Complement.{number-not, not-bits}

-- of 128 bits or more, a number below 2^128 is itself
pub whole : (w n : ℕ) → 128 ≤ w → n < 2 ^ 128 → n ≡ number (bits w n)
whole w n wide small =
    let more : 2 ^ 128 ≤ 2 ^ w = pow-le-pow_right (omega arith) wide in
    let below : n < 2 ^ w = omega (arith, more, small) in
    sym (number-bits w n ∙ mod-eq_of_lt below)

-- of fewer, what is left of a division by a power of 2, which a word has
pub part : (w n : ℕ) → w < 128 → n % ((1 * 2 ^ w) % 2 ^ 128) ≡ number (bits w n)
part w n narrow = ap (λ m. n % m) power ∙ sym (number-bits w n)
  where
    step : w + 1 ≤ 128
    step = omega (arith, narrow)

    most : 2 ^ (w + 1) ≤ 2 ^ 128
    most = pow-le-pow_right (omega arith) step

    below : 1 * 2 ^ w < 2 ^ 128
    below = omega (arith, most, pow-add 2 w 1, pow_pos w)

    power : (1 * 2 ^ w) % 2 ^ 128 ≡ 2 ^ w
    power = mod-eq_of_lt below ∙ omega arith

-- the complement's number
complemented : (w n : ℕ) → number (map not (bits w n)) + number (bits w n) + 1 ≡ 2 ^ w
complemented w n = number-not (bits w n) ∙ ap (λ k. 2 ^ k) (length-bits w n)

-- two complements are one just where the numbers are
pub same_negative : (w m n : ℕ) → nat_eq (number (bits w m)) (number (bits w n)) ≡ nat_eq (number (map not (bits w m))) (number (map not (bits w n)))
same_negative w m n = go (nat_eq (number (bits w m)) (number (bits w n))) refl
  where
    go : (b : Bool) → nat_eq (number (bits w m)) (number (bits w n)) ≡ b → b ≡ nat_eq (number (map not (bits w m))) (number (map not (bits w n)))
    go true is =
        let same = eqb-true (number (bits w m)) (number (bits w n)) is in
        sym (eq-eqb (number (map not (bits w m))) (number (map not (bits w n))) (omega (arith, complemented w m, complemented w n, same)))
    go false is =
        sym (ne_eqb (number (map not (bits w m))) (number (map not (bits w n))) (λ same. eqb-false (number (bits w m)) (number (bits w n)) is (omega (arith, complemented w m, complemented w n, same))))

-- a complement of at most 128 bits
pub narrow_complement : (w n top : ℕ) → w ≤ 128 → n + top + 1 ≡ 2 ^ 128 → number (bits w top) ≡ number (map not (bits w n))
narrow_complement w n top narrow sum =
    let split : (128 - w) + w ≡ 128 = omega (arith, narrow) in
    let power : 2 ^ 128 ≡ 2 ^ (128 - w) * 2 ^ w = ap (λ k. 2 ^ k) (sym split) ∙ pow-add 2 (128 - w) w in
    sym (ap number (not-bits w n top (2 ^ (128 - w)) (sum ∙ power)))

-- of more bits than 128 a number below 2^128 is no complement of one
pub wide_complement : (w m n : ℕ) → 128 < w → m < 2 ^ 128 → n < 2 ^ 128 → false ≡ nat_eq (number (bits w m)) (number (map not (bits w n)))
wide_complement w m n wide small little =
    let above : 129 ≤ w = omega (arith, wide) in
    let more : 2 ^ 129 ≤ 2 ^ w = pow-le-pow_right (omega arith) above in
    let first = whole w m (omega (arith, wide)) small in
    let second = whole w n (omega (arith, wide)) little in
    sym (ne_eqb (number (bits w m)) (number (map not (bits w n))) (λ same. absurd (omega (arith, more, first, second, same, complemented w n, small, little))))

-- a number that is above another one is not at most it
pub above : (m n : ℕ) → n < m → nat_le m n ≡ false
above m n less = go (nat_le m n) refl
  where
    go : (b : Bool) → nat_le m n ≡ b → b ≡ false
    go true is = absurd (omega (arith, less, leb-true m n is))
    go false is = refl

-- ---- the low 128 bits of what integers stand for

-- of a number below 2^128
pub low_of_number : (w n : ℕ) → n < 2 ^ 128 → number (bits w n) ≡ number (bits w n) % 2 ^ 128
low_of_number w n small = sym (mod-eq_of_lt below)
  where
    is : number (bits w n) ≡ n % 2 ^ w
    is = number-bits w n

    below : number (bits w n) < 2 ^ 128
    below = omega (arith, is, mod-le n (2 ^ w), small)

-- of a complement: those of the number that it makes 2^128 with
pub low_of_complement : (w n top : ℕ) → n + top + 1 ≡ 2 ^ 128 → number (bits w top) ≡ number (map not (bits w n)) % 2 ^ 128
low_of_complement w n top sum = go (nat_le w 128) refl
  where
    small : top < 2 ^ 128
    small = omega (arith, sum)

    little : n < 2 ^ 128
    little = omega (arith, sum)

    go : (b : Bool) → nat_le w 128 ≡ b → number (bits w top) ≡ number (map not (bits w n)) % 2 ^ 128
    go true is = low_of_number w top small ∙ ap (λ k. k % 2 ^ 128) (narrow_complement w n top (leb-true w 128 is) sum)
    go false is =
        let wide : 128 ≤ w = omega (arith, leb-false w 128 is) in
        let split : w ≡ (w - 128) + 128 = omega (arith, wide) in
        let power : 2 ^ w ≡ 2 ^ (w - 128) * 2 ^ 128 = ap (λ k. 2 ^ k) split ∙ pow-add 2 (w - 128) 128 in
        let some : 1 ≤ 2 ^ (w - 128) = pow_pos (w - 128) in
        let first = whole w top wide small in
        let second = whole w n wide little in
        let many : number (map not (bits w n)) ≡ (2 ^ (w - 128) - 1) * 2 ^ 128 + top = omega (arith, complemented w n, second, power, some, sum) in
        sym first ∙ sym (ap (λ k. k % 2 ^ 128) many ∙ mod-mul-add (2 ^ (w - 128) - 1) (2 ^ 128) top small)
