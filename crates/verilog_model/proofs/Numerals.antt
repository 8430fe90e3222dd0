-- Decimal numerals say their numbers again.
use Rattle.std.proofs.Common.{◌≡◌, ℕ, ◌+◌, ◌*◌, ◌/◌, ◌%◌, ◌^◌, ◌<◌, ◌≤◌, Bool, true, false, ◌&&◌, List, [], ◌∷◌, ◌++◌, decimal, refl, ◌∙◌, arith, IsTrue}
use Rattle.std.proofs.lemmas.Fmt.{decimal_by_steps}
use Rattle.verilog_model.specs.Tokens.{is_digit}
use Rattle.verilog_model.specs.Tree.{Numeral}
use Rattle.verilog_model.specs.Numerals.{number_from, decimal_digit, decimal_number, all_bytes, is_nonempty, is_decimal}

pub and_intro : (a b : Bool) → IsTrue a → IsTrue b → IsTrue (a && b)
and_intro true true p q = refl
and_intro true false p q = q
and_intro false b p q = p

pub and_first : (a b : Bool) → IsTrue (a && b) → IsTrue a
and_first true b p = refl
and_first false b p = p

pub and_second : (a b : Bool) → IsTrue (a && b) → IsTrue b
and_second true b p = p
and_second false b p = cc

pub number_from-append : (digit : ℕ → ℕ) (radix n : ℕ) (bs cs : Numeral) → number_from digit radix n (bs ++ cs) ≡ number_from digit radix (number_from digit radix n bs) cs
number_from-append digit radix n [] cs = refl
number_from-append digit radix n (b ∷ bs) cs = number_from-append digit radix (n * radix + digit b) bs cs

pub all_bytes-append : (p : ℕ → Bool) (bs cs : List ℕ) → IsTrue (all_bytes p bs) → IsTrue (all_bytes p cs) → IsTrue (all_bytes p (bs ++ cs))
all_bytes-append p [] cs h g = g
all_bytes-append p (b ∷ bs) cs h g =
    and_intro (p b) (all_bytes p (bs ++ cs)) (and_first (p b) (all_bytes p bs) h) (all_bytes-append p bs cs (and_second (p b) (all_bytes p bs) h) g)

pub all_bytes_weaker : (p q : ℕ → Bool) → ((b : ℕ) → IsTrue (p b) → IsTrue (q b)) → (bs : List ℕ) → IsTrue (all_bytes p bs) → IsTrue (all_bytes q bs)
all_bytes_weaker p q f [] h = refl
all_bytes_weaker p q f (b ∷ bs) h =
    and_intro (q b) (all_bytes q bs) (f b (and_first (p b) (all_bytes p bs) h)) (all_bytes_weaker p q f bs (and_second (p b) (all_bytes p bs) h))

is_digit_of : (d : ℕ) → d < 10 → IsTrue (is_digit (48 + d))
is_digit_of d small = grind arith

pub is_nonempty-append : (bs cs : List ℕ) → IsTrue (is_nonempty cs) → IsTrue (is_nonempty (bs ++ cs))
is_nonempty-append [] cs h = h
is_nonempty-append (b ∷ bs) cs h = refl

pub decimal_number-decimal : (n : ℕ) → n < 2 ^ 64 → decimal_number (decimal n) ≡ n
decimal_number-decimal = decimal_by_steps (λ n ds. decimal_number ds ≡ n) (λ n small. omega arith) more where
  more : (n : ℕ) (ds : List ℕ) → 10 ≤ n → decimal_number ds ≡ n / 10 → decimal_number (ds ++ ((48 + n % 10) ∷ [])) ≡ n
  more n ds big h = number_from-append decimal_digit 10 0 ds ((48 + n % 10) ∷ []) ∙ (rw h (omega arith))

pub is_decimal-decimal : (n : ℕ) → n < 2 ^ 64 → IsTrue (is_decimal (decimal n))
is_decimal-decimal = decimal_by_steps (λ n ds. IsTrue (is_decimal ds)) (λ n small. and_intro (is_digit (48 + n)) true (is_digit_of n small) refl) more where
  more : (n : ℕ) (ds : List ℕ) → 10 ≤ n → IsTrue (is_decimal ds) → IsTrue (is_decimal (ds ++ ((48 + n % 10) ∷ [])))
  more n ds big h = let d : n % 10 < 10 = omega arith in
      and_intro (is_nonempty (ds ++ ((48 + n % 10) ∷ []))) (all_bytes is_digit (ds ++ ((48 + n % 10) ∷ [])))
      (is_nonempty-append ds ((48 + n % 10) ∷ []) refl)
      (all_bytes-append is_digit ds ((48 + n % 10) ∷ []) (and_second (is_nonempty ds) (all_bytes is_digit ds) h) (and_intro (is_digit (48 + n % 10)) true (is_digit_of (n % 10) d) refl))
