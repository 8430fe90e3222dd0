-- What is read of digits is the number that they write, as far as it is kept.
use Rattle.std.proofs.Common.{◌≡◌, ℕ, ◌+◌, ◌-◌, ◌*◌, ◌^◌, ◌<◌, ◌≤◌, min, Bool, true, false, cond, List, [], ◌∷◌, refl, sym, ◌∙◌, ap, subst, arith, length}
use Rattle.std.specs.Prelude.{◌==◌, nat_lt, ◌&&◌, not, Option, Some, None}
use Rattle.std.proofs.lemmas.Bool.{lt-ltb, le-ltb, eqb-true, eqb-false}
use Rattle.std.proofs.lemmas.Bool.Decides.{nat_tests}
use Rattle.std.proofs.lemmas.Nat.{pow-add}
use Rattle.std.proofs.Math.Nat.{pow-le-pow_right}
use Rattle.verilog_model.specs.Tokens.{is_digit}
use Rattle.verilog_model.specs.Numerals.{number_from, decimal_digit, hex_digit, decimal_number, hex_number, is_hex, all_bytes}
use Rattle.step_file.specs.declared.literal.Value.{Value}
use Rattle.step_file.specs.Literals.{is_width}
use Rattle.step_file.specs.Digits.{with_decimal, width_from, width_by, is_hex_byte, digit_bits, more_bits, more_low, with_digit, value_from, value_by, no_value}

-- ---- widths

-- a width that is kept up to a bound is so with one more digit
capped : (w m d c : ℕ) → w ≡ min m c → min (w * 10 + d) c ≡ min (m * 10 + d) c
capped w m d c e = omega arith

-- what is read of decimal digits, by whether they are such and by their number
abbrev pub ReadsWidth : Option ℕ → Bool → ℕ → Type 0
ReadsWidth None ok n = ok ≡ false
ReadsWidth (Some w) ok n = (ok ≡ true) × (w ≡ min n (2 ^ 32))

width_step : (w m b : ℕ) (bs : List ℕ) (t : Bool)
    → ReadsWidth (width_from (with_decimal w b) bs) (all_bytes is_digit bs) (number_from decimal_digit 10 (m * 10 + decimal_digit b) bs)
    → ReadsWidth (cond t (width_from (with_decimal w b) bs) None) (t && all_bytes is_digit bs) (number_from decimal_digit 10 (m * 10 + decimal_digit b) bs)
width_step w m b bs true h = h
width_step w m b bs false h = refl

pub width_read : (w m : ℕ) (bs : List ℕ) → w ≡ min m (2 ^ 32) → ReadsWidth (width_from w bs) (all_bytes is_digit bs) (number_from decimal_digit 10 m bs)
width_read w m [] e = (refl, e)
width_read w m (b ∷ bs) e = width_step w m b bs (is_digit b) (width_read (with_decimal w b) (m * 10 + decimal_digit b) bs (capped w m (b - 48) (2 ^ 32) e))

begins : (b : ℕ) (bs : List ℕ) (t : Bool) → ReadsWidth (width_from 0 (b ∷ bs)) (all_bytes is_digit (b ∷ bs)) (number_from decimal_digit 10 0 (b ∷ bs))
    → ReadsWidth (cond t None (width_from 0 (b ∷ bs))) (not t && all_bytes is_digit (b ∷ bs)) (number_from decimal_digit 10 0 (b ∷ bs))
begins b bs true h = refl
begins b bs false h = h

pub width_by_tells : (w : List ℕ) → ReadsWidth (width_by w) (is_width w) (decimal_number w)
width_by_tells [] = refl
width_by_tells (b ∷ bs) = begins b bs (b == 48) (width_read 0 0 (b ∷ bs) refl)

-- ---- values

-- a value is that of a number: it has so many bits, the first of them 1, and is kept where they are at most 128
pub record IsValue (v : Value) (n : ℕ) : Type 0 where
  pub below : n < 2 ^ v.bits
  pub above : 2 ^ v.bits ≤ 2 * n + 1
  pub low : v.bits ≤ 128 → v.low ≡ n

pub value_of_none : IsValue no_value 0
value_of_none = record { below = omega arith; above = omega arith; low = λ h. refl }

digit_below : (d : ℕ) → d < 16 → d < 2 ^ digit_bits d
digit_below d h = grind (arith, nat_tests)

digit_above : (d : ℕ) → d < 16 → 2 ^ digit_bits d ≤ 2 * d + 1
digit_above d h = grind (arith, nat_tests)

first_digit_alone : (d : ℕ) → d < 16 → IsValue (record { bits = digit_bits d; low = more_low 0 d }) (0 * 16 + d)
first_digit_alone d h =
    let b : d < 2 ^ digit_bits d = digit_below d h in
    let a : 2 ^ digit_bits d ≤ 2 * d + 1 = digit_above d h in
    record { below = omega (arith, b); above = omega (arith, a); low = λ _. refl }

-- a digit behind none but zeros
first_digit : (low n d : ℕ) → d < 16 → n ≡ 0 → low ≡ n → IsValue (record { bits = digit_bits d; low = more_low low d }) (n * 16 + d)
first_digit low n d h none e =
    subst (λ (m : ℕ). IsValue (record { bits = digit_bits d; low = more_low m d }) (n * 16 + d)) (sym e)
    (subst (λ (m : ℕ). IsValue (record { bits = digit_bits d; low = more_low m d }) (m * 16 + d)) (sym none) (first_digit_alone d h))

-- a number that is kept is kept with one more digit
kept_low : (low n d : ℕ) → low ≡ n → n < 2 ^ 124 → more_low low d ≡ n * 16 + d
kept_low low n d e h =
    let small : low < 2 ^ 124 = subst (λ (m : ℕ). m < 2 ^ 124) (sym e) h in
    ap (λ (t : Bool). cond t (low * 16 + d) low) (lt-ltb low (2 ^ 124) small) ∙ ap (λ (m : ℕ). m * 16 + d) e

fits_124 : (b n : ℕ) → n < 2 ^ b → b ≤ 124 → n < 2 ^ 124
fits_124 b n h most =
    let p : 2 ^ b ≤ 2 ^ 124 = pow-le-pow_right (omega arith) most in
    omega (arith, h, p)

-- a digit behind a number of one bit or more
later_digit : (b low n d : ℕ) → (b ≡ 0 → ⊥) → d < 16 → n < 2 ^ b → 2 ^ b ≤ 2 * n + 1 → (b ≤ 128 → low ≡ n)
    → IsValue (record { bits = b + 4; low = more_low low d }) (n * 16 + d)
later_digit b low n d some h below above is =
    let p : 2 ^ (b + 4) ≡ 2 ^ b * 16 = pow-add 2 b 4 in
    let b1 : b ≡ (b - 1) + 1 = omega (arith, some) in
    let even : 2 ^ b ≡ 2 ^ (b - 1) * 2 = ap (λ (k : ℕ). 2 ^ k) b1 ∙ pow-add 2 (b - 1) 1 in
    record {
      below = omega (arith, p, below, h);
      above = omega (arith, p, even, above, h);
      low = λ most. kept_low low n d (is (omega (arith, most))) (fits_124 b n below (omega (arith, most)));
    }

value_by_test : (v : Value) (n d : ℕ) (t : Bool) → (v.bits == 0) ≡ t → d < 16 → IsValue v n
    → IsValue (record { bits = cond t (digit_bits d) (v.bits + 4); low = more_low v.low d }) (n * 16 + d)
value_by_test v n d true e h i =
    let none : v.bits ≡ 0 = eqb-true v.bits 0 e in
    let small : n < 2 ^ 0 = subst (λ (m : ℕ). n < 2 ^ m) none i.below in
    let n0 : n ≡ 0 = omega (arith, small) in
    first_digit v.low n d h n0 (i.low (omega (arith, none)))
value_by_test v n d false e h i = later_digit v.bits v.low n d (eqb-false v.bits 0 e) h i.below i.above i.low

pub value_step : (v : Value) (n d : ℕ) → d < 16 → IsValue v n → IsValue (with_digit v d) (n * 16 + d)
value_step v n d h i = value_by_test v n d (v.bits == 0) refl h i

-- what is read of hexadecimal digits, by whether they are such and by their number
abbrev pub ReadsValue : Option Value → Bool → ℕ → Type 0
ReadsValue None ok n = ok ≡ false
ReadsValue (Some v) ok n = (ok ≡ true) × IsValue v n

hex_below : (b : ℕ) → is_hex_byte b ≡ true → hex_digit b < 16
hex_below b h = grind (arith, nat_tests)

value_more : (v : Value) (n b : ℕ) (bs : List ℕ) (t : Bool) → is_hex_byte b ≡ t
    → (hex_digit b < 16 → ReadsValue (value_from (with_digit v (hex_digit b)) bs) (all_bytes is_hex_byte bs) (number_from hex_digit 16 (n * 16 + hex_digit b) bs))
    → ReadsValue (cond t (value_from (with_digit v (hex_digit b)) bs) None) (t && all_bytes is_hex_byte bs) (number_from hex_digit 16 (n * 16 + hex_digit b) bs)
value_more v n b bs true e h = h (hex_below b e)
value_more v n b bs false e h = refl

pub value_read : (v : Value) (n : ℕ) (bs : List ℕ) → IsValue v n → ReadsValue (value_from v bs) (all_bytes is_hex_byte bs) (number_from hex_digit 16 n bs)
value_read v n [] i = (refl, i)
value_read v n (b ∷ bs) i =
    value_more v n b bs (is_hex_byte b) refl (λ small. value_read (with_digit v (hex_digit b)) (n * 16 + hex_digit b) bs (value_step v n (hex_digit b) small i))

pub value_by_tells : (h : List ℕ) → ReadsValue (value_by h) (is_hex h) (hex_number h)
value_by_tells [] = refl
value_by_tells (b ∷ bs) = value_read no_value 0 (b ∷ bs) value_of_none

-- ---- room

pub fits_yes : (v : Value) (n w : ℕ) → IsValue v n → v.bits ≤ w → nat_lt n (2 ^ w) ≡ true
fits_yes v n w i most =
    let p : 2 ^ v.bits ≤ 2 ^ w = pow-le-pow_right (omega arith) most in
    let b : n < 2 ^ v.bits = i.below in
    lt-ltb n (2 ^ w) (omega (arith, p, b))

pub fits_no : (v : Value) (n w : ℕ) → IsValue v n → w < v.bits → nat_lt n (2 ^ w) ≡ false
fits_no v n w i more =
    let p : 2 ^ (w + 1) ≤ 2 ^ v.bits = pow-le-pow_right (omega arith) (omega (arith, more)) in
    let q : 2 ^ (w + 1) ≡ 2 ^ w * 2 = pow-add 2 w 1 in
    let a : 2 ^ v.bits ≤ 2 * n + 1 = i.above in
    le-ltb n (2 ^ w) (omega (arith, p, q, a))

-- ---- how many bits

-- the value has at most so many bits
abbrev pub IsWithinBits : Option Value → ℕ → Type 0
IsWithinBits None m = Unit {0}
IsWithinBits (Some v) m = v.bits ≤ m

digit_bits_most : (d : ℕ) → digit_bits d ≤ 4
digit_bits_most d = grind (arith, nat_tests)

more_bits_most : (b d : ℕ) (t : Bool) → cond t (digit_bits d) (b + 4) ≤ b + 4
more_bits_most b d true = let h : digit_bits d ≤ 4 = digit_bits_most d in omega (arith, h)
more_bits_most b d false = omega arith

weaken : (o : Option Value) (m k : ℕ) → m ≤ k → IsWithinBits o m → IsWithinBits o k
weaken None m k h i = tt
weaken (Some v) m k h i = omega (arith, h, i)

if_digit : (t : Bool) (o : Option Value) (m : ℕ) → IsWithinBits o m → IsWithinBits (cond t o None) m
if_digit true o m h = h
if_digit false o m h = tt

pub value_within : (v : Value) (bs : List ℕ) → IsWithinBits (value_from v bs) (v.bits + 4 * length bs)
value_within v [] = omega arith
value_within v (b ∷ bs) =
    let one : more_bits v.bits (hex_digit b) ≤ v.bits + 4 = more_bits_most v.bits (hex_digit b) (v.bits == 0) in
    let enough : more_bits v.bits (hex_digit b) + 4 * length bs ≤ v.bits + 4 * length (b ∷ bs) = omega (arith, one) in
    if_digit (is_hex_byte b) (value_from (with_digit v (hex_digit b)) bs) (v.bits + 4 * length (b ∷ bs))
    (weaken (value_from (with_digit v (hex_digit b)) bs) (more_bits v.bits (hex_digit b) + 4 * length bs) (v.bits + 4 * length (b ∷ bs)) enough (value_within (with_digit v (hex_digit b)) bs))

pub value_by_within : (h : List ℕ) → IsWithinBits (value_by h) (4 * length h)
value_by_within [] = tt
value_by_within (b ∷ bs) = weaken (value_from no_value (b ∷ bs)) (0 + 4 * length (b ∷ bs)) (4 * length (b ∷ bs)) (omega arith) (value_within no_value (b ∷ bs))
