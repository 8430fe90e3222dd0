-- A word is kept as its width and its number, and both come back from the word.
use Rattle.std.specs.Prelude.{◌≡◌, ℕ, zero, suc, ◌+◌, ◌*◌, ◌/◌, ◌%◌, ◌^◌, ◌<◌, ◌==◌, length, refl}
use Rattle.std.proofs.Common.{sym, ◌∙◌, ap, arith, mod-lt, mod-eq_of_lt}
use Rattle.std.proofs.Math.Nat.{mod-one}
use Rattle.std.proofs.lemmas.Nat.{mod-pow-add}
use Rattle.bits_core.specs.declared.Bits.TheInside.{Inside}
use Rattle.bits_core.specs.Word.{Word, bit, bits, number}

-- the fields of a word
abbrev pub fields_of : Word → Inside
fields_of x = record { width = length x; value = number x }

-- the low w bits of a number are w bits
pub length-bits : (w n : ℕ) → length (bits w n) ≡ w
length-bits zero n = refl
length-bits (suc w) n = ap suc (length-bits w n)

-- a bit as a number, by the test that makes it
bit_of_test : (m : ℕ) → m < 2 → bit (m == 1) ≡ m
bit_of_test zero h = refl
bit_of_test (suc zero) h = refl
bit_of_test (suc (suc m)) h = absurd (omega arith)

-- the low w bits of a number stand for its rest by 2 ^ w
pub number-bits : (w n : ℕ) → number (bits w n) ≡ n % 2 ^ w
number-bits zero n = sym (mod-one n)
number-bits (suc w) n =
    rw (length-bits w n, number-bits w n, bit_of_test (n / 2 ^ w % 2) (mod-lt (n / 2 ^ w) (omega arith)))
    (let e : n % 2 ^ (1 + w) ≡ (n / 2 ^ w % 2 ^ 1) * 2 ^ w + n % 2 ^ w = mod-pow-add n 1 w in
    let s : 1 + w ≡ suc w = omega arith in
    sym (rw s at e))

-- a number that fits comes back
pub number-bits-below : (w n : ℕ) → n < 2 ^ w → number (bits w n) ≡ n
number-bits-below w n h = number-bits w n ∙ mod-eq_of_lt h

pub fields_of-bits : (w n : ℕ) → n < 2 ^ w → fields_of (bits w n) ≡ record { width = w; value = n }
fields_of-bits w n h = rw (length-bits w n, number-bits-below w n h) refl
