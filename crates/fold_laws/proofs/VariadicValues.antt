-- The value of an operation of any number of operands: two operands may be turned, their own value may stand for them, and one may
-- be moved to the end.
use Rattle.std.proofs.Common.{◌≡◌, ℕ, ◌+◌, ◌*◌, ◌%◌, ◌^◌, true, false, ◌&&◌, ◌||◌, List, [], ◌∷◌, ◌++◌, length, map, refl, sym, ap, ◌∙◌, arith, mul_assoc, mul_comm, mul-one}
use Rattle.std.proofs.Math.Nat.{mod-add-mod, add-mod-mod}
use Rattle.std.proofs.lemmas.List.{length-replicate}
use Rattle.std.proofs.lemmas.Nat.{mul-mod_first, mul-mod_second}
use Rattle.wiring.specs.Lists.{total}
use Rattle.wiring.specs.Wiring.{In}
use Rattle.wiring.proofs.Members.{All-from_members}
use Rattle.bits_core.specs.Word.{Word, number, bits, zeros, ones, xor as xor_bits, and_words, or_words, xor_words}
use Rattle.bits_core.proofs.Arithmetic.{bits_from_rest}
use Rattle.bits_core.proofs.Bitwise.{and_words-ones, or_words-zeros, xor_words-zeros, and_words_comm, or_words_comm, xor_words_comm, and_words_assoc, or_words_assoc, xor_words_assoc}
use Rattle.bits_core.proofs.Numbers.{length-bits, number-bits}
use Rattle.hw_model.specs.Kinds.{Variadic}
use Rattle.hw_model.specs.Kinds.Variadic.{add, mul, and, or, xor}
use Rattle.hw_model.specs.Value.{product, and_all, or_all, xor_all, variadic_value}
use Rattle.hw_model.proofs.Operands.{width_folded}

-- ---- one more operand before

-- numbers whose last bits are the same have the same rest
same_rest : (w m n : ℕ) → bits w m ≡ bits w n → m % 2 ^ w ≡ n % 2 ^ w
same_rest w m n same = sym (number-bits w m) ∙ ap number same ∙ number-bits w n

sum_more : (w k m n : ℕ) → bits w m ≡ bits w n → bits w (k + m) ≡ bits w (k + n)
sum_more w k m n same =
    bits_from_rest w (k + m) (k + n)
    (sym (add-mod-mod k m (2 ^ w)) ∙ ap (λ a. (k + a) % 2 ^ w) (same_rest w m n same) ∙ add-mod-mod k n (2 ^ w))

product_more : (w k m n : ℕ) → bits w m ≡ bits w n → bits w (k * m) ≡ bits w (k * n)
product_more w k m n same =
    bits_from_rest w (k * m) (k * n)
    (sym (mul-mod_second k m (2 ^ w)) ∙ ap (λ a. (k * a) % 2 ^ w) (same_rest w m n same) ∙ mul-mod_second k n (2 ^ w))

pub value_more : (v : Variadic) (w : ℕ) (x : Word) (xs ys : List Word) → variadic_value v w xs ≡ variadic_value v w ys
    → variadic_value v w (x ∷ xs) ≡ variadic_value v w (x ∷ ys)
value_more add w x xs ys same = sum_more w (number x) (total (map number xs)) (total (map number ys)) same
value_more mul w x xs ys same = product_more w (number x) (product (map number xs)) (product (map number ys)) same
value_more and w x xs ys same = ap (and_words x) same
value_more or w x xs ys same = ap (or_words x) same
value_more xor w x xs ys same = ap (xor_words x) same

-- ---- two operands turned

sum_turned : (k m n : ℕ) → k + (m + n) ≡ m + (k + n)
sum_turned k m n = omega arith

product_turned : (k m n : ℕ) → k * (m * n) ≡ m * (k * n)
product_turned k m n = sym (mul_assoc k m n) ∙ ap (λ a. a * n) (mul_comm k m) ∙ mul_assoc m k n

step_turned : (step : Word → Word → Word) → ((x y : Word) → step x y ≡ step y x) → ((x y z : Word) → step (step x y) z ≡ step x (step y z)) → (x y z : Word)
    → step x (step y z) ≡ step y (step x z)
step_turned step comm assoc x y z = sym (assoc x y z) ∙ ap (λ a. step a z) (comm x y) ∙ assoc y x z

pub value_turned : (v : Variadic) (w : ℕ) (x y : Word) (zs : List Word) → variadic_value v w (x ∷ y ∷ zs) ≡ variadic_value v w (y ∷ x ∷ zs)
value_turned add w x y zs = ap (bits w) (sum_turned (number x) (number y) (total (map number zs)))
value_turned mul w x y zs = ap (bits w) (product_turned (number x) (number y) (product (map number zs)))
value_turned and w x y zs = step_turned and_words and_words_comm and_words_assoc x y (and_all w zs)
value_turned or w x y zs = step_turned or_words or_words_comm or_words_assoc x y (or_all w zs)
value_turned xor w x y zs = step_turned xor_words xor_words_comm xor_words_assoc x y (xor_all w zs)

-- the first operand moved to the end
pub value_moved : (v : Variadic) (w : ℕ) (x : Word) (xs : List Word) → variadic_value v w (x ∷ xs) ≡ variadic_value v w (xs ++ x ∷ [])
value_moved v w x [] = refl
value_moved v w x (y ∷ ys) = value_turned v w x y ys ∙ value_more v w y (x ∷ ys) (ys ++ x ∷ []) (value_moved v w x ys)

-- ---- two operands and their own value

sum_joined : (w k m n : ℕ) → bits w (number (bits w (k + (m + 0))) + n) ≡ bits w (k + (m + n))
sum_joined w k m n =
    let sum : k + (m + 0) + n ≡ k + (m + n) = omega arith in
    bits_from_rest w (number (bits w (k + (m + 0))) + n) (k + (m + n))
    (ap (λ a. (a + n) % 2 ^ w) (number-bits w (k + (m + 0))) ∙ mod-add-mod (k + (m + 0)) (2 ^ w) n ∙ ap (λ a. a % 2 ^ w) sum)

product_joined : (w k m n : ℕ) → bits w (number (bits w (k * (m * 1))) * n) ≡ bits w (k * (m * n))
product_joined w k m n =
    bits_from_rest w (number (bits w (k * (m * 1))) * n) (k * (m * n))
    (ap (λ a. (a * n) % 2 ^ w) (number-bits w (k * (m * 1))) ∙ mul-mod_first (k * (m * 1)) n (2 ^ w)
    ∙ ap (λ a. a % 2 ^ w) (ap (λ a. k * a * n) (mul-one m) ∙ mul_assoc k m n))

step_joined : (step : Word → Word → Word) → ((x y z : Word) → step (step x y) z ≡ step x (step y z)) → (x y e z : Word) → step e z ≡ z
    → step (step x (step y e)) z ≡ step x (step y z)
step_joined step assoc x y e z neutral = assoc x (step y e) z ∙ ap (step x) (assoc y e z ∙ ap (step y) neutral)

-- the value has as many bits as the operands
pub value_wide : (v : Variadic) (w : ℕ) (zs : List Word) → ((z : Word) → In z zs → length z ≡ w) → length (variadic_value v w zs) ≡ w
value_wide add w zs wide = length-bits w (total (map number zs))
value_wide mul w zs wide = length-bits w (product (map number zs))
value_wide and w zs wide =
    width_folded (and_all w) (λ a b. a && b) w (length-replicate w true) (λ x ys. refl) zs (All-from_members (λ (u : Word). length u ≡ w) zs wide)
value_wide or w zs wide =
    width_folded (or_all w) (λ a b. a || b) w (length-replicate w false) (λ x ys. refl) zs (All-from_members (λ (u : Word). length u ≡ w) zs wide)
value_wide xor w zs wide =
    width_folded (xor_all w) xor_bits w (length-replicate w false) (λ x ys. refl) zs (All-from_members (λ (u : Word). length u ≡ w) zs wide)

module _ (w : ℕ) (zs : List Word) (wide : (z : Word) → In z zs → length z ≡ w) where
  and_neutral : and_words (ones w) (and_all w zs) ≡ and_all w zs
  and_neutral =
      and_words_comm (ones w) (and_all w zs) ∙ ap (λ n. and_words (and_all w zs) (ones n)) (sym (value_wide and w zs wide)) ∙ and_words-ones (and_all w zs)

  or_neutral : or_words (zeros w) (or_all w zs) ≡ or_all w zs
  or_neutral =
      or_words_comm (zeros w) (or_all w zs) ∙ ap (λ n. or_words (or_all w zs) (zeros n)) (sym (value_wide or w zs wide)) ∙ or_words-zeros (or_all w zs)

  xor_neutral : xor_words (zeros w) (xor_all w zs) ≡ xor_all w zs
  xor_neutral =
      xor_words_comm (zeros w) (xor_all w zs) ∙ ap (λ n. xor_words (xor_all w zs) (zeros n)) (sym (value_wide xor w zs wide)) ∙ xor_words-zeros (xor_all w zs)

  -- the value of two operands stands for them, among others of w bits
  pub value_joined : (v : Variadic) (x y : Word) → variadic_value v w (variadic_value v w (x ∷ y ∷ []) ∷ zs) ≡ variadic_value v w (x ∷ y ∷ zs)
  value_joined add x y = sum_joined w (number x) (number y) (total (map number zs))
  value_joined mul x y = product_joined w (number x) (number y) (product (map number zs))
  value_joined and x y = step_joined and_words and_words_assoc x y (ones w) (and_all w zs) and_neutral
  value_joined or x y = step_joined or_words or_words_assoc x y (zeros w) (or_all w zs) or_neutral
  value_joined xor x y = step_joined xor_words xor_words_assoc x y (zeros w) (xor_all w zs) xor_neutral
