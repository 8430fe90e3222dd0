-- Hexadecimal numerals, digit by digit.
use Rattle.std.proofs.Common.{◌≡◌, ℕ, zero, suc, ◌/◌, ◌%◌, ◌<◌, ◌≤◌, Bool, true, false, cond, nat_lt, List, [], ◌∷◌, ◌++◌, refl, sym, ap, ◌∙◌, arith, append_assoc, append-nil}
use Rattle.std.proofs.lemmas.Bool.{ltb-true, ltb-false}
use Rattle.verilog_model.specs.Digits.{hex_byte, hex_digits, hex}

-- more room changes no digit
same_digits : (k l n : ℕ) → n < k → n < l → hex_digits k n ≡ hex_digits l n
same_digits zero l n room more = absurd (omega arith)
same_digits (suc k) zero n room more = absurd (omega arith)
same_digits (suc k) (suc l) n room more = go (nat_lt n 16) refl (same_digits k l (n / 16)) where
  go : (b : Bool) → nat_lt n 16 ≡ b → (n / 16 < k → n / 16 < l → hex_digits k (n / 16) ≡ hex_digits l (n / 16))
      → cond b (hex_byte n ∷ []) (hex_digits k (n / 16) ++ (hex_byte (n % 16) ∷ [])) ≡ cond b (hex_byte n ∷ []) (hex_digits l (n / 16) ++ (hex_byte (n % 16) ∷ []))
  go true is rest = refl
  go false is rest =
      let big : 16 ≤ n = ltb-false n 16 is in
      ap (λ ds. ds ++ (hex_byte (n % 16) ∷ [])) (rest (omega arith) (omega arith))

pub hex_low : (n : ℕ) → n < 16 → hex n ≡ hex_byte n ∷ []
unfolding hex
hex_low n small = go (nat_lt n 16) refl where
  go : (b : Bool) → nat_lt n 16 ≡ b → cond b (hex_byte n ∷ []) (hex_digits n (n / 16) ++ (hex_byte (n % 16) ∷ [])) ≡ hex_byte n ∷ []
  go true is = refl
  go false is = absurd (omega (arith, ltb-false n 16 is))

pub hex_high : (n : ℕ) → 16 ≤ n → hex n ≡ hex (n / 16) ++ (hex_byte (n % 16) ∷ [])
unfolding hex
hex_high n big = go (nat_lt n 16) refl where
  go : (b : Bool) → nat_lt n 16 ≡ b → cond b (hex_byte n ∷ []) (hex_digits n (n / 16) ++ (hex_byte (n % 16) ∷ [])) ≡ hex_digits (suc (n / 16)) (n / 16) ++ (hex_byte (n % 16) ∷ [])
  go true is = absurd (omega (arith, ltb-true n 16 is))
  go false is = ap (λ ds. ds ++ (hex_byte (n % 16) ∷ [])) (same_digits n (suc (n / 16)) (n / 16) (omega arith) (omega arith))

-- a digit after the others
pub hex_more : (out one two : List ℕ) (n d : ℕ) → 16 ≤ n → one ≡ out ++ hex (n / 16) → d ≡ hex_byte (n % 16) → two ≡ one ++ (d ∷ []) → two ≡ out ++ hex n
hex_more out one two n d big p q r =
    r ∙ ap (λ x. x ++ (d ∷ [])) p ∙ append_assoc out (hex (n / 16)) (d ∷ []) ∙ ap (λ e. out ++ (hex (n / 16) ++ (e ∷ []))) q ∙ ap (λ ds. out ++ ds) (sym (hex_high n big))

-- three parts added one after another
pub three_last : (out one two end a b c : List ℕ) → one ≡ out ++ a → two ≡ one ++ b → end ≡ two ++ c → end ≡ out ++ (a ++ (b ++ (c ++ [])))
three_last out one two end a b c p q r =
    r ∙ ap (λ x. x ++ c) (q ∙ ap (λ x. x ++ b) p) ∙ append_assoc (out ++ a) b c ∙ append_assoc out a (b ++ c)
    ∙ ap (λ x. out ++ (a ++ (b ++ x))) (sym (append-nil c))
