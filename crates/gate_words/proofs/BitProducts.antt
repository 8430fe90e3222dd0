-- Products by Horner's rule and quotients by restoring division, over bits, against those of numbers.
use Rattle.std.proofs.Common.{◌≡◌, refl, sym, ap, ap₂, subst, ◌∙◌, ℕ, zero, suc, ◌+◌, ◌-◌, ◌*◌, ◌/◌, ◌%◌, ◌^◌, ◌≤◌, ◌<◌, Bool, true, false, not, cond, nat_lt, [], ◌∷◌, ◌++◌, length, drop, arith}
use Rattle.std.proofs.Common.{pow-suc, pow_pos, mul_assoc, mul_comm, mul-add, add-mul, length-append, mod-eq_of_lt, mul-suc, lt_of_le_of_lt, div-le_self, pos, neg_ℤ, nat_abs}
use Rattle.std.proofs.Math.ListN.{length-replicate}
use Rattle.std.proofs.Math.Nat.{mod-add-mod, mul-add-div_right, mul-add-mod_self_right, div-eq_of_lt, div-zero, mod-zero}
use Rattle.std.proofs.lemmas.Bool.{lt-ltb}
use Rattle.std.proofs.lemmas.Bool.Decides.{nat_tests}
use Rattle.std.proofs.lemmas.Nat.{mul-mod_first}
use Rattle.bits_core.specs.Word.{Word, bit, bits, number, xor, not_word, zeros, sign, signed, mul, quotient, rest, signed_quotient, signed_rest, bits_of_ℤ}
use Rattle.bits_core.proofs.Numbers.{number-bits, number-bits-below, number_below, bits-number, bits-high, number-zeros, number-append, number-drop}
use Rattle.bits_core.proofs.Complement.{length-not, number-not, magnitude-signed, quotient_by_magnitude, is_below_zero, is_below_zero-signed, rest_by_sign}
use Rattle.bits_core.proofs.Arithmetic.{bits_from_rest}
use Rattle.bits_core.proofs.Storage.{bits-zero, number-negative}
use Rattle.gate_words.proofs.WordGateLists.{BitTotal, bit_sum, mask_bits, any_bit}
use Rattle.gate_words.proofs.LongGateLists.{bit_doubled, bit_product_from, bit_tried, bit_divided_from, bit_quotient, bit_rest, bit_negated, bit_signed_quotient, bit_signed_rest, length-bit_tried}
use Rattle.gate_words.proofs.LongGateLists.{length-quotient_bits, length-bit_quotient, length-bit_rest, length-bit_sum, length-bit_doubled, length-mask_bits, length-bit_negated}
use Rattle.gate_words.proofs.BitSums.{choose_is, mask_is, number-mask, number-sum, word-sum, carry_is_less, negated_is, negated_integer, any_is_some}

-- ---- products

-- the low bits of a product and a sum come from the low bits of the factor
pub bits_kept : (w a b k n : ℕ) → bits w a ≡ bits w b → bits w (a * k + n) ≡ bits w (b * k + n)
bits_kept w a b k n e =
    let rests : a % 2 ^ w ≡ b % 2 ^ w = sym (number-bits w a) ∙ ap number e ∙ number-bits w b in
    bits_from_rest w (a * k + n) (b * k + n)
    (sym (mod-add-mod (a * k) (2 ^ w) n)
    ∙ ap (λ m. (m + n) % 2 ^ w) (sym (mul-mod_first a k (2 ^ w)) ∙ ap (λ m. m * k % 2 ^ w) rests ∙ mul-mod_first b k (2 ^ w))
    ∙ mod-add-mod (b * k) (2 ^ w) n)

doubled_is : (u : Word) → bit_doubled u ≡ bits (length u) (2 * number u)
doubled_is [] = refl
doubled_is (b ∷ u) =
    let size : length (u ++ false ∷ []) ≡ suc (length u) = omega (arith, length-append u (false ∷ [])) in
    let twice : number (u ++ false ∷ []) ≡ 2 * number u = number-append u (false ∷ []) ∙ (let e : number u * 2 ^ 1 + 0 ≡ 2 * number u = omega arith in e) in
    let high : bit b * 2 ^ suc (length u) + 2 * number u ≡ 2 * (bit b * 2 ^ length u + number u) = rw pow-suc (split b) in
    sym (bits-number (u ++ false ∷ [])) ∙ ap₂ bits size twice
    ∙ sym (bits-high (suc (length u)) (bit b) (2 * number u)) ∙ ap (bits (suc (length u))) high
  where
    split : (b : Bool) → bit b * (2 ^ length u * 2) + 2 * number u ≡ 2 * (bit b * 2 ^ length u + number u)
    split true = omega arith
    split false = omega arith

horner : (t u b K V : ℕ) → (2 * t + b * u) * K + u * V ≡ t * (K * 2) + u * (b * K + V)
horner t u b K V =
    let e1 = add-mul (2 * t) (b * u) K in
    let e2 = mul-add u (b * K) V in
    let e3 : 2 * t * K ≡ t * (K * 2) = ap (λ n. n * K) (mul_comm 2 t) ∙ mul_assoc t 2 K ∙ ap (λ n. t * n) (mul_comm 2 K) in
    let e4 : b * u * K ≡ u * (b * K) = ap (λ n. n * K) (mul_comm b u) ∙ mul_assoc u b K in
    omega (arith, e1, e2, e3, e4)

product_from_is : (t u v : Word) → length t ≡ length u → bit_product_from t u v ≡ bits (length u) (number t * 2 ^ length v + number u * number v)
product_from_is t u [] e =
    sym (bits-number t) ∙ ap₂ bits e (let f : number t ≡ number t * 1 + number u * 0 = omega arith in f)
product_from_is t u (b ∷ v) e =
    let w = length u in
    let part = mask_bits b u in
    let sizes : length part ≡ length (bit_doubled t) = length-mask_bits b u ∙ sym e ∙ sym (length-bit_doubled t) in
    let next = (bit_sum (bit_doubled t) part false).word in
    let size : length next ≡ w = length-bit_sum (bit_doubled t) part false sizes ∙ length-bit_doubled t ∙ e in
    let value : next ≡ bits w (2 * number t + bit b * number u) =
    word-sum (bit_doubled t) part false sizes
    ∙ ap₂ bits (length-bit_doubled t ∙ e) (let f : number (bit_doubled t) + number part + 0 ≡ number (bit_doubled t) * 1 + number part = omega arith in f)
    ∙ bits_kept w (number (bit_doubled t)) (2 * number t) 1 (number part)
    (ap (λ n. bits n (number (bit_doubled t))) (sym e ∙ sym (length-bit_doubled t)) ∙ bits-number (bit_doubled t) ∙ doubled_is t ∙ ap (λ n. bits n (2 * number t)) e)
    ∙ ap (bits w) (let f : 2 * number t * 1 + bit b * number u ≡ 2 * number t + bit b * number u = omega arith in ap (λ n. 2 * number t * 1 + n) (number-mask b u) ∙ f) in
    product_from_is next u v size
    ∙ bits_kept w (number next) (2 * number t + bit b * number u) (2 ^ length v) (number u * number v)
    (ap (λ n. bits n (number next)) (sym size) ∙ bits-number next ∙ value)
    ∙ ap (bits w) (horner (number t) (number u) (bit b) (2 ^ length v) (number v)
    ∙ ap (λ p. number t * p + number u * (bit b * 2 ^ length v + number v)) (sym (pow-suc 2 (length v))))

pub product_is : (u v : Word) → bit_product_from (zeros (length u)) u v ≡ mul u v
product_is u v =
    product_from_is (zeros (length u)) u v (length-replicate (length u) false)
    ∙ ap (bits (length u)) (ap (λ n. n * 2 ^ length v + number u * number v) (number-zeros (length u))
    ∙ (let f : 0 * 2 ^ length v + number u * number v ≡ number u * number v = omega arith in f))

-- ---- one step of a division

apart : (w x m d p t : ℕ) {n : ℕ} → w + 1 * p ≡ x + m + 1 → m + d + 1 ≡ p → x ≡ t → t - d ≡ n → d ≤ t → w ≡ n
apart w x m d p t a b c e f = omega arith

-- what a step leaves: the number less the divisor where it is not less
module _ (r : Word) (b : Bool) (d : Word) (e : length r ≡ length d) where
  wide : Word
  wide = r ++ b ∷ []

  wide-length : length (r ++ b ∷ []) ≡ suc (length d)
  wide-length = omega (arith, length-append r (b ∷ []))

  wide-number : number (r ++ b ∷ []) ≡ 2 * number r + bit b
  wide-number = number-append r (b ∷ []) ∙ one b
    where
      one : (b : Bool) → number r * 2 ^ 1 + (bit b * 2 ^ 0 + 0) ≡ 2 * number r + bit b
      one true = omega arith
      one false = omega arith

  zero-number : number (false ∷ d) ≡ number d
  zero-number = omega arith

  pub tried-bit : (bit_tried r b d).bit ≡ not (nat_lt (2 * number r + bit b) (number d))
  tried-bit =
      twice (bit_tried r b d).bit
      ∙ ap not (carry_is_less (r ++ b ∷ []) (false ∷ d) (sym wide-length) ∙ ap₂ nat_lt wide-number zero-number)
    where
      twice : (t : Bool) → t ≡ not (not t)
      twice true = refl
      twice false = refl

  -- where the step keeps a number that fits, that number
  pub tried-rest : (n : ℕ) → n < 2 ^ length d → cond (bit_tried r b d).bit (2 * number r + bit b - number d) (2 * number r + bit b) ≡ n → number (bit_tried r b d).rest ≡ n
  tried-rest n fits is = go (bit_tried r b d).bit refl
    where
      total : BitTotal
      total = bit_sum (r ++ b ∷ []) (true ∷ not_word d) true

      size : length (bit_sum (r ++ b ∷ []) (true ∷ not_word d) true).word ≡ length (r ++ b ∷ [])
      size = length-bit_sum (r ++ b ∷ []) (true ∷ not_word d) true (omega (arith, length-not d, length-append r (b ∷ [])))

      dropped : (x : Word) → length x ≡ suc (length d) → number x ≡ n → number (drop 1 x) ≡ n
      dropped x l v =
          let k : length x - 1 ≡ length d = omega arith in
          number-drop 1 x ∙ ap₂ (λ m i. m % 2 ^ i) v k ∙ mod-eq_of_lt fits

      go : (t : Bool) → (bit_tried r b d).bit ≡ t → number (bit_tried r b d).rest ≡ n
      go false lower =
          ap (λ x. number (drop 1 x)) (choose_is (bit_tried r b d).bit _ (r ++ b ∷ []) size ∙ ap (λ t. cond t (bit_sum (r ++ b ∷ []) (true ∷ not_word d) true).word (r ++ b ∷ [])) lower)
          ∙ dropped (r ++ b ∷ []) wide-length (wide-number ∙ sym (ap (λ t. cond t (2 * number r + bit b - number d) (2 * number r + bit b)) lower) ∙ is)
      go true enough =
          ap (λ x. number (drop 1 x)) (choose_is (bit_tried r b d).bit _ (r ++ b ∷ []) size ∙ ap (λ t. cond t (bit_sum (r ++ b ∷ []) (true ∷ not_word d) true).word (r ++ b ∷ [])) enough)
          ∙ dropped (bit_sum (r ++ b ∷ []) (true ∷ not_word d) true).word (size ∙ wide-length) difference
        where
          kept : 2 * number r + bit b - number d ≡ n
          kept = sym (ap (λ t. cond t (2 * number r + bit b - number d) (2 * number r + bit b)) enough) ∙ is

          at_least : number d ≤ 2 * number r + bit b
          at_least = let f : not (nat_lt (2 * number r + bit b) (number d)) ≡ true = sym tried-bit ∙ enough in grind (arith, nat_tests)

          difference : number (bit_sum (r ++ b ∷ []) (true ∷ not_word d) true).word ≡ n
          difference =
              let word = (bit_sum (r ++ b ∷ []) (true ∷ not_word d) true).word in
              let all = number (r ++ b ∷ []) + number (true ∷ not_word d) + 1 in
              let sum = number-sum (r ++ b ∷ []) (true ∷ not_word d) true (omega (arith, length-not d, length-append r (b ∷ []))) in
              let carried : number word + 1 * 2 ^ suc (length d) ≡ all =
              subst (λ m. number word + 1 * 2 ^ m ≡ all) wide-length (subst (λ t. number word + bit t * 2 ^ length (r ++ b ∷ []) ≡ all) enough sum) in
              let power = 2 ^ suc (length d) in
              let whole : number (true ∷ not_word d) + number d + 1 ≡ power =
              (let f : number (true ∷ not_word d) + number d + 1 ≡ number (true ∷ not_word d) + number (false ∷ d) + 1 = omega (arith, zero-number) in f)
              ∙ number-not (false ∷ d) in
              apart (number word) (number (r ++ b ∷ [])) (number (true ∷ not_word d)) (number d) power (2 * number r + bit b) carried whole wide-number kept at_least

-- ---- divisions

joined_step : (t b : Bool) (R D Q S K U N : ℕ) → cond t (2 * R + bit b - D) (2 * R + bit b) ≡ N → t ≡ not (nat_lt (2 * R + bit b) D)
    → Q * D + S ≡ N * K + U → (bit t * K + Q) * D + S ≡ R * (K * 2) + (bit b * K + U)
joined_step true b R D Q S K U N is enough e =
    let low : D ≤ 2 * R + bit b = at_least enough in
    let whole : N + D ≡ 2 * R + bit b = omega arith in
    let e1 = add-mul (1 * K) Q D in
    let e2 : N * K + D * K ≡ 2 * R * K + bit b * K = sym (add-mul N D K) ∙ ap (λ n. n * K) whole ∙ add-mul (2 * R) (bit b) K in
    let e3 : 2 * R * K ≡ R * (K * 2) = ap (λ n. n * K) (mul_comm 2 R) ∙ mul_assoc R 2 K ∙ ap (λ n. R * n) (mul_comm 2 K) in
    let e4 : 1 * K * D ≡ D * K = ap (λ n. n * D) (let f : 1 * K ≡ K = omega arith in f) ∙ mul_comm K D in
    omega (arith, e1, e2, e3, e4)
  where
    at_least : true ≡ not (nat_lt (2 * R + bit b) D) → D ≤ 2 * R + bit b
    at_least h = grind (arith, nat_tests)
joined_step false b R D Q S K U N is enough e =
    let e2 : N * K ≡ 2 * R * K + bit b * K = ap (λ n. n * K) (sym is) ∙ add-mul (2 * R) (bit b) K in
    let e3 : 2 * R * K ≡ R * (K * 2) = ap (λ n. n * K) (mul_comm 2 R) ∙ mul_assoc R 2 K ∙ ap (λ n. R * n) (mul_comm 2 K) in
    let e5 : (bit false * K + Q) * D ≡ Q * D = ap (λ n. n * D) (let f : 0 * K + Q ≡ Q = omega arith in f) in
    omega (arith, e2, e3, e5)

kept_below : (t b : Bool) (R D : ℕ) → R < D → t ≡ not (nat_lt (2 * R + bit b) D) → cond t (2 * R + bit b - D) (2 * R + bit b) < D
kept_below true true R D h e = omega arith
kept_below true false R D h e = omega arith
kept_below false b R D h e = grind (arith, nat_tests)

-- with a divisor above 0 the quotient and the rest are those of the numbers
pub divided_is : (r u d : Word) → length r ≡ length d → number r < number d
    → (number (bit_divided_from r u d).quotient * number d + number (bit_divided_from r u d).rest ≡ number r * 2 ^ length u + number u)
    × (number (bit_divided_from r u d).rest < number d)
divided_is r [] d e h = ((let f : 0 * number d + number r ≡ number r * 1 + 0 = omega arith in f), h)
divided_is r (b ∷ u) d e h =
    let R = number r in
    let D = number d in
    let t = (bit_tried r b d).bit in
    let next = (bit_tried r b d).rest in
    let N = cond t (2 * R + bit b - D) (2 * R + bit b) in
    let bit_is : t ≡ not (nat_lt (2 * R + bit b) D) = tried-bit r b d e in
    let below : N < D = kept_below t b R D h bit_is in
    let small : N < 2 ^ length d = omega (arith, number_below d) in
    let value : number next ≡ N = tried-rest r b d e N small refl in
    let rest = divided_is next u d (length-bit_tried r b d e) (subst (λ n. n < D) (sym value) below) in
    let q = (bit_divided_from next u d).quotient in
    let sized : bit t * 2 ^ length q + number q ≡ bit t * 2 ^ length u + number q =
    ap (λ n. bit t * 2 ^ n + number q) (length-quotient_bits next u d) in (
      ap (λ n. n * D + number (bit_divided_from next u d).rest) sized
          ∙ joined_step t b R D (number q) (number (bit_divided_from next u d).rest) (2 ^ length u) (number u) N refl bit_is
          (rest.0 ∙ ap (λ n. n * 2 ^ length u + number u) value)
          ∙ ap (λ p. R * p + (bit b * 2 ^ length u + number u)) (sym (pow-suc 2 (length u))),
      rest.1,
    )

-- with the divisor 0 the rest is the dividend
pub divided_by_zero : (r u d : Word) → length r ≡ length d → number d ≡ 0 → number r * 2 ^ length u + number u < 2 ^ length d
    → number (bit_divided_from r u d).rest ≡ number r * 2 ^ length u + number u
divided_by_zero r [] d e z h = (let f : number r ≡ number r * 1 + 0 = omega arith in f)
divided_by_zero r (b ∷ u) d e z h =
    let R = number r in
    let t = (bit_tried r b d).bit in
    let N = 2 * R + bit b in
    let whole : N * 2 ^ length u + number u ≡ R * 2 ^ suc (length u) + (bit b * 2 ^ length u + number u) =
    rw pow-suc (split b R (2 ^ length u) (number u)) in
    let fits : N * 2 ^ length u + number u < 2 ^ length d = subst (λ n. n < 2 ^ length d) (sym whole) h in
    let grows : N ≤ N * 2 ^ length u = product_grows N (2 ^ length u) (pow_pos (length u)) in
    let small : N < 2 ^ length d = omega arith in
    let kept : cond t (N - number d) N ≡ N = subst (λ x. cond t (N - x) N ≡ N) (sym z) (none_taken t N) in
    let value : number (bit_tried r b d).rest ≡ N = tried-rest r b d e N small kept in
    divided_by_zero (bit_tried r b d).rest u d (length-bit_tried r b d e) z (subst (λ n. n * 2 ^ length u + number u < 2 ^ length d) (sym value) fits)
    ∙ ap (λ n. n * 2 ^ length u + number u) value ∙ whole
  where
    none_taken : (t : Bool) (n : ℕ) → cond t (n - 0) n ≡ n
    none_taken true n = omega arith
    none_taken false n = refl

    product_grows : (n p : ℕ) → 0 < p → n ≤ n * p
    product_grows n zero h = absurd (omega arith)
    product_grows n (suc p) h = omega (arith, mul-suc n p)

    split : (b : Bool) (R K U : ℕ) → (2 * R + bit b) * K + U ≡ R * (K * 2) + (bit b * K + U)
    split b R K U =
        let e1 = add-mul (2 * R) (bit b) K in
        let e3 : 2 * R * K ≡ R * (K * 2) = ap (λ n. n * K) (mul_comm 2 R) ∙ mul_assoc R 2 K ∙ ap (λ n. R * n) (mul_comm 2 K) in
        omega (arith, e1, e3)

-- ---- quotients and rests

module _ (u d : Word) (e : length u ≡ length d) where
  start : Word
  start = zeros (length u)

  start-length : length (zeros (length u)) ≡ length d
  start-length = length-replicate (length u) false ∙ e

  from_zero : number (zeros (length u)) * 2 ^ length u + number u ≡ number u
  from_zero = ap (λ n. n * 2 ^ length u + number u) (number-zeros (length u)) ∙ (let f : 0 * 2 ^ length u + number u ≡ number u = omega arith in f)

  number-rest : number (bit_rest u d) ≡ number u % number d
  number-rest = go (number d) refl
    where
      go : (n : ℕ) → number d ≡ n → number (bit_rest u d) ≡ number u % number d
      go zero z =
          divided_by_zero (zeros (length u)) u d start-length z
          (subst (λ n. n < 2 ^ length d) (sym from_zero) (subst (λ n. number u < 2 ^ n) e (number_below u)))
          ∙ from_zero ∙ sym (mod-zero (number u)) ∙ ap (λ n. number u % n) (sym z)
      go (suc n) z =
          let some : number (zeros (length u)) < number d = omega (arith, number-zeros (length u)) in
          let both = divided_is (zeros (length u)) u d start-length some in
          sym (mod-eq_of_lt both.1) ∙ sym (mul-add-mod_self_right (number (bit_divided_from (zeros (length u)) u d).quotient) (number d) (number (bit_rest u d)))
          ∙ ap (λ m. m % number d) (both.0 ∙ from_zero)

  pub rest_is : bit_rest u d ≡ rest u d
  rest_is = sym (bits-number (bit_rest u d)) ∙ ap₂ bits (length-bit_rest u d e) number-rest

  pub quotient_is : bit_quotient u d ≡ quotient u d
  quotient_is = go (number d) refl
    where
      q : Word
      q = (bit_divided_from (zeros (length u)) u d).quotient

      masked : bit_quotient u d ≡ cond (nat_lt 0 (number d)) (bit_divided_from (zeros (length u)) u d).quotient (zeros (length (bit_divided_from (zeros (length u)) u d).quotient))
      masked = mask_is (any_bit d) (bit_divided_from (zeros (length u)) u d).quotient
          ∙ ap (λ t. cond t (bit_divided_from (zeros (length u)) u d).quotient (zeros (length (bit_divided_from (zeros (length u)) u d).quotient))) (any_is_some d)

      go : (n : ℕ) → number d ≡ n → bit_quotient u d ≡ quotient u d
      go zero z =
          masked ∙ ap (λ m. cond (nat_lt 0 m) (bit_divided_from (zeros (length u)) u d).quotient (zeros (length (bit_divided_from (zeros (length u)) u d).quotient))) z
          ∙ ap zeros (length-quotient_bits (zeros (length u)) u d) ∙ sym (bits-zero (length u))
          ∙ ap (bits (length u)) (sym (div-zero (number u)) ∙ ap (λ n. number u / n) (sym z))
      go (suc n) z =
          let some : number (zeros (length u)) < number d = omega (arith, number-zeros (length u)) in
          let positive : 0 < number d = omega arith in
          let both = divided_is (zeros (length u)) u d start-length some in
          let found = (bit_divided_from (zeros (length u)) u d).quotient in
          let value : number found ≡ number u / number d =
          (let f : number found ≡ number found + 0 = omega arith in f)
          ∙ ap (λ m. number found + m) (sym (div-eq_of_lt both.1))
          ∙ sym (mul-add-div_right positive (number found) (number (bit_rest u d)))
          ∙ ap (λ m. m / number d) (both.0 ∙ from_zero) in
          masked ∙ ap (λ t. cond t found (zeros (length found))) (lt-ltb 0 (number d) positive)
          ∙ sym (bits-number found) ∙ ap₂ bits (length-quotient_bits (zeros (length u)) u d) value

-- ---- signed readings

magnitude_is : (u : Word) → number (bit_negated (sign u) u) ≡ nat_abs (signed u)
magnitude_is u =
    ap number (negated_is (sign u) u) ∙ number-bits-below (length u) _ (go (sign u) refl) ∙ sym (magnitude-signed u)
  where
    go : (t : Bool) → sign u ≡ t → cond (sign u) (2 ^ length u - number u) (number u) < 2 ^ length u
    go true s = subst (λ t. cond t (2 ^ length u - number u) (number u) < 2 ^ length u) (sym s) (omega (arith, number-negative u s, pow_pos (length u)))
    go false s = subst (λ t. cond t (2 ^ length u - number u) (number u) < 2 ^ length u) (sym s) (number_below u)

signs : (u d : Word) → xor (is_below_zero (signed u)) (is_below_zero (signed d)) ≡ xor (sign u) (sign d)
signs u d = ap₂ xor (is_below_zero-signed u) (is_below_zero-signed d)

module _ (u d : Word) (e : length u ≡ length d) where
  a : Word
  a = bit_negated (sign u) u

  sizes : length (bit_negated (sign u) u) ≡ length (bit_negated (sign d) d)
  sizes = length-bit_negated (sign u) u ∙ e ∙ sym (length-bit_negated (sign d) d)

  pub signed_quotient_is : bit_signed_quotient u d ≡ signed_quotient u d
  signed_quotient_is =
      let x = bit_negated (sign u) u in
      let y = bit_negated (sign d) d in
      let k = nat_abs (signed u) / nat_abs (signed d) in
      let size : length (bit_quotient x y) ≡ length u = length-bit_quotient x y ∙ length-bit_negated (sign u) u in
      let below : nat_abs (signed u) < 2 ^ length x = subst (λ n. n < 2 ^ length x) (magnitude_is u) (number_below x) in
      let value : number (bit_quotient x y) ≡ k =
      ap number (quotient_is x y sizes) ∙ ap (λ n. number (bits (length x) n)) (ap₂ (λ m n. m / n) (magnitude_is u) (magnitude_is d))
      ∙ number-bits-below (length x) k (lt_of_le_of_lt (div-le_self (nat_abs (signed u)) (nat_abs (signed d))) below) in
      negated_integer (xor (sign u) (sign d)) (bit_quotient x y)
      ∙ ap₂ (λ n m. bits_of_ℤ n (cond (xor (sign u) (sign d)) (neg_ℤ (pos m)) (pos m))) size value
      ∙ ap (bits_of_ℤ (length u)) (ap (λ t. cond t (neg_ℤ (pos k)) (pos k)) (sym (signs u d)) ∙ sym (quotient_by_magnitude (signed u) (signed d)))

  pub signed_rest_is : bit_signed_rest u d ≡ signed_rest u d
  signed_rest_is =
      let x = bit_negated (sign u) u in
      let y = bit_negated (sign d) d in
      let k = nat_abs (signed u) % nat_abs (signed d) in
      let size : length (bit_rest x y) ≡ length u = length-bit_rest x y sizes ∙ length-bit_negated (sign u) u in
      let value : number (bit_rest x y) ≡ k = number-rest x y sizes ∙ ap₂ (λ m n. m % n) (magnitude_is u) (magnitude_is d) in
      negated_integer (sign u) (bit_rest x y)
      ∙ ap₂ (λ n m. bits_of_ℤ n (cond (sign u) (neg_ℤ (pos m)) (pos m))) size value
      ∙ ap (bits_of_ℤ (length u)) (sym (rest_by_sign u d))
