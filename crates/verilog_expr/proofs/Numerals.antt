-- Hexadecimal numerals and ranges say their numbers again.
use Rattle.std.proofs.Common.{◌≡◌, ℕ, zero, suc, ◌-◌, ◌/◌, ◌%◌, ◌^◌, ◌<◌, ◌≤◌, Bool, true, false, cond, nat_lt, ◌==◌, ◌||◌, [], ◌∷◌, ◌++◌, Some, None, decimal, refl, ◌∙◌, arith, IsTrue}
use Rattle.std.proofs.lemmas.Bool.{ltb-true, ltb-false}
use Rattle.verilog_model.specs.Tokens.{is_digit, is_between}
use Rattle.verilog_model.specs.Numerals.{hex_digit, hex_number, decimal_number, all_bytes, is_nonempty, is_hex}
use Rattle.verilog_model.specs.Hierarchy.{range_width}
use Rattle.verilog_model.proofs.Numerals.{and_intro, and_second, number_from-append, all_bytes-append, is_nonempty-append, decimal_number-decimal}
use Rattle.verilog_model.specs.Digits.{hex_byte, hex_digits, hex, high_of}

abbrev is_hex_byte : ℕ → Bool
is_hex_byte b = is_digit b || (is_between 65 70 b || is_between 97 102 b)

hex_digit-byte : (d : ℕ) → d < 16 → hex_digit (hex_byte d) ≡ d
hex_digit-byte d small = grind arith

is_hex_byte-byte : (d : ℕ) → d < 16 → IsTrue (is_hex_byte (hex_byte d))
is_hex_byte-byte d small = grind arith

hex_number-digits : (k n : ℕ) → n < k → hex_number (hex_digits k n) ≡ n
hex_number-digits zero n room = absurd (omega arith)
hex_number-digits (suc k) n room = go (nat_lt n 16) refl (hex_number-digits k (n / 16)) where
  go : (b : Bool) → nat_lt n 16 ≡ b → (n / 16 < k → hex_number (hex_digits k (n / 16)) ≡ n / 16)
      → hex_number (cond b (hex_byte n ∷ []) (hex_digits k (n / 16) ++ (hex_byte (n % 16) ∷ []))) ≡ n
  go true is rest =
      let d : hex_digit (hex_byte n) ≡ n = hex_digit-byte n (ltb-true n 16 is) in
      omega arith
  go false is rest =
      let big : 16 ≤ n = ltb-false n 16 is in
      let d : hex_digit (hex_byte (n % 16)) ≡ n % 16 = hex_digit-byte (n % 16) (omega arith) in
      let r : hex_number (hex_digits k (n / 16)) ≡ n / 16 = rest (omega arith) in
      number_from-append hex_digit 16 0 (hex_digits k (n / 16)) (hex_byte (n % 16) ∷ []) ∙ omega arith

pub hex_number-hex : (n : ℕ) → hex_number (hex n) ≡ n
unfolding hex
hex_number-hex n = hex_number-digits (suc n) n (omega arith)

is_hex-digits : (k n : ℕ) → n < k → IsTrue (is_hex (hex_digits k n))
is_hex-digits zero n room = absurd (omega arith)
is_hex-digits (suc k) n room = go (nat_lt n 16) refl (is_hex-digits k (n / 16)) where
  go : (b : Bool) → nat_lt n 16 ≡ b → (n / 16 < k → IsTrue (is_hex (hex_digits k (n / 16))))
      → IsTrue (is_hex (cond b (hex_byte n ∷ []) (hex_digits k (n / 16) ++ (hex_byte (n % 16) ∷ []))))
  go true is rest = and_intro (is_hex_byte (hex_byte n)) true (is_hex_byte-byte n (ltb-true n 16 is)) refl
  go false is rest =
      let big : 16 ≤ n = ltb-false n 16 is in
      let d : IsTrue (is_hex_byte (hex_byte (n % 16))) = is_hex_byte-byte (n % 16) (omega arith) in
      let r : IsTrue (is_hex (hex_digits k (n / 16))) = rest (omega arith) in
      and_intro _ _ (is_nonempty-append (hex_digits k (n / 16)) (hex_byte (n % 16) ∷ []) refl)
      (all_bytes-append is_hex_byte (hex_digits k (n / 16)) (hex_byte (n % 16) ∷ [])
      (and_second (is_nonempty (hex_digits k (n / 16))) (all_bytes is_hex_byte (hex_digits k (n / 16))) r)
      (and_intro (is_hex_byte (hex_byte (n % 16))) true d refl))

pub is_hex-hex : (n : ℕ) → is_hex (hex n) ≡ true
unfolding hex
is_hex-hex n = is_hex-digits (suc n) n (omega arith)

pub range_width-high_of : (w : ℕ) → 1 ≤ w → w < 2 ^ 64 → range_width (high_of w) ≡ w
range_width-high_of w some small = go (w == 1) refl where
  go : (b : Bool) → (w == 1) ≡ b → range_width (cond b None (Some (decimal (w - 1)))) ≡ w
  go true is = grind arith
  go false is = let n : decimal_number (decimal (w - 1)) ≡ w - 1 = decimal_number-decimal (w - 1) (omega arith) in omega arith
