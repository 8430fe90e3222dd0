-- The value of an operation of any number of operands stays where the operands of a value of it stand in that value's position: sums and
-- products by powers of two, bitwise operations since they are associative, joined words.
use Rattle.std.proofs.Common.{◌≡◌, ℕ, zero, suc, ◌+◌, ◌*◌, ◌%◌, ◌^◌, Bool, true, false, ◌&&◌, ◌||◌, List, [], ◌∷◌, ◌++◌, length, map, Some, slice_get, refl, sym, ap, ◌∙◌, inr, append_assoc, mul_assoc, mul_comm, mul-one}
use Rattle.std.proofs.Math.Nat.{mod-add-mod, add-mod-mod, mod-mod}
use Rattle.std.proofs.lemmas.List.{length-replicate}
use Rattle.std.proofs.lemmas.Nat.{mul-mod_first, mul-mod_second}
use Rattle.wiring.specs.Lists.{total}
use Rattle.wiring.specs.Wiring.{In}
use Rattle.wiring.proofs.Members.{All-from_members}
use Rattle.wiring.proofs.Totals.{total-map_append}
use Rattle.bits_core.specs.Word.{Word, number, bits, zeros, ones, xor as xor_bits, bitwise, and_words, or_words, xor_words}
use Rattle.bits_core.proofs.Arithmetic.{bits_from_rest}
use Rattle.bits_core.proofs.Bitwise.{and_words-ones, or_words-zeros, xor_words-zeros, and_words_comm, or_words_comm, xor_words_comm, and_words_assoc, or_words_assoc, xor_words_assoc}
use Rattle.bits_core.proofs.Numbers.{number-bits}
use Rattle.hw_model.specs.Kinds.{Variadic}
use Rattle.hw_model.specs.Kinds.Variadic.{add, mul, and, or, xor}
use Rattle.hw_model.specs.Value.{concat_words, product, and_all, or_all, xor_all, variadic_value}
use Rattle.hw_model.proofs.Operands.{width_folded}
use Rattle.fold_laws.specs.Nested.{splice}

-- ---- sums and products

sum_splice : (m n : ℕ) (xs ys : List Word) (y : Word) → slice_get ys n ≡ Some y → number y % m ≡ total (map number xs) % m
    → total (map number ys) % m ≡ total (map number (splice n xs ys)) % m
sum_splice m n xs [] y is same = cc
sum_splice m zero xs (z ∷ ys) y is same =
    let one : z ≡ y = cc in
    sym (mod-add-mod (number z) m (total (map number ys)))
    ∙ ap (λ a. (a + total (map number ys)) % m) (ap (λ (x : Word). number x % m) one ∙ same)
    ∙ mod-add-mod (total (map number xs)) m (total (map number ys))
    ∙ ap (λ a. a % m) (sym (total-map_append number xs ys))
sum_splice m (suc n) xs (z ∷ ys) y is same =
    sym (add-mod-mod (number z) (total (map number ys)) m)
    ∙ ap (λ a. (number z + a) % m) (sum_splice m n xs ys y is same)
    ∙ add-mod-mod (number z) (total (map number (splice n xs ys))) m

product-append : (xs ys : List Word) → product (map number (xs ++ ys)) ≡ product (map number xs) * product (map number ys)
product-append [] ys = sym (mul_comm 1 (product (map number ys)) ∙ mul-one (product (map number ys)))
product-append (x ∷ xs) ys =
    ap (λ a. number x * a) (product-append xs ys) ∙ sym (mul_assoc (number x) (product (map number xs)) (product (map number ys)))

product_splice : (m n : ℕ) (xs ys : List Word) (y : Word) → slice_get ys n ≡ Some y → number y % m ≡ product (map number xs) % m
    → product (map number ys) % m ≡ product (map number (splice n xs ys)) % m
product_splice m n xs [] y is same = cc
product_splice m zero xs (z ∷ ys) y is same =
    let one : z ≡ y = cc in
    sym (mul-mod_first (number z) (product (map number ys)) m)
    ∙ ap (λ a. (a * product (map number ys)) % m) (ap (λ (x : Word). number x % m) one ∙ same)
    ∙ mul-mod_first (product (map number xs)) (product (map number ys)) m
    ∙ ap (λ a. a % m) (sym (product-append xs ys))
product_splice m (suc n) xs (z ∷ ys) y is same =
    sym (mul-mod_second (number z) (product (map number ys)) m)
    ∙ ap (λ a. (number z * a) % m) (product_splice m n xs ys y is same)
    ∙ mul-mod_second (number z) (product (map number (splice n xs ys))) m

-- the number of the last bits of a number, by their power of two
last_bits : (w n : ℕ) → number (bits w n) % 2 ^ w ≡ n % 2 ^ w
last_bits w n = ap (λ a. a % 2 ^ w) (number-bits w n) ∙ mod-mod n (2 ^ w)

-- ---- bitwise operations

module _ (value : List Word → Word) (step : Word → Word → Word) (w : ℕ) (more : (x : Word) (xs : List Word) → value (x ∷ xs) ≡ step x (value xs))
    (assoc : (x y z : Word) → step (step x y) z ≡ step x (step y z)) (neutral : (z : Word) → length z ≡ w → step (value []) z ≡ z)
    (wide : (xs : List Word) → ((x : Word) → In x xs → length x ≡ w) → length (value xs) ≡ w) where
  value-append : (xs ys : List Word) → ((y : Word) → In y ys → length y ≡ w) → value (xs ++ ys) ≡ step (value xs) (value ys)
  value-append [] ys each = sym (neutral (value ys) (wide ys each))
  value-append (x ∷ xs) ys each =
      more x (xs ++ ys) ∙ ap (step x) (value-append xs ys each) ∙ sym (assoc x (value xs) (value ys)) ∙ ap (λ z. step z (value ys)) (sym (more x xs))

  value-splice : (n : ℕ) (xs ys : List Word) → ((y : Word) → In y ys → length y ≡ w) → slice_get ys n ≡ Some (value xs) → value ys ≡ value (splice n xs ys)
  value-splice n xs [] each is = cc
  value-splice zero xs (z ∷ ys) each is =
      let same : z ≡ value xs = cc in
      more z ys ∙ ap (λ q. step q (value ys)) same ∙ sym (value-append xs ys (λ y here. each y (inr here)))
  value-splice (suc n) xs (z ∷ ys) each is =
      more z ys ∙ ap (step z) (value-splice n xs ys (λ y here. each y (inr here)) is) ∙ sym (more z (splice n xs ys))

all_wide : (value : List Word → Word) (f : Bool → Bool → Bool) (w : ℕ) → length (value []) ≡ w → ((x : Word) (xs : List Word) → value (x ∷ xs) ≡ bitwise f x (value xs))
    → (xs : List Word) → ((x : Word) → In x xs → length x ≡ w) → length (value xs) ≡ w
all_wide value f w empty more xs each = width_folded value f w empty more xs (All-from_members (λ (u : Word). length u ≡ w) xs each)

and_neutral : (w : ℕ) (z : Word) → length z ≡ w → and_words (ones w) z ≡ z
and_neutral w z size = and_words_comm (ones w) z ∙ ap (λ n. and_words z (ones n)) (sym size) ∙ and_words-ones z

or_neutral : (w : ℕ) (z : Word) → length z ≡ w → or_words (zeros w) z ≡ z
or_neutral w z size = or_words_comm (zeros w) z ∙ ap (λ n. or_words z (zeros n)) (sym size) ∙ or_words-zeros z

xor_neutral : (w : ℕ) (z : Word) → length z ≡ w → xor_words (zeros w) z ≡ z
xor_neutral w z size = xor_words_comm (zeros w) z ∙ ap (λ n. xor_words z (zeros n)) (sym size) ∙ xor_words-zeros z

-- ---- each operation

pub variadic-splice : (v : Variadic) (w n : ℕ) (xs ys : List Word) → ((y : Word) → In y ys → length y ≡ w) → slice_get ys n ≡ Some (variadic_value v w xs)
    → variadic_value v w ys ≡ variadic_value v w (splice n xs ys)
variadic-splice add w n xs ys each is =
    bits_from_rest w (total (map number ys)) (total (map number (splice n xs ys)))
    (sum_splice (2 ^ w) n xs ys (bits w (total (map number xs))) is (last_bits w (total (map number xs))))
variadic-splice mul w n xs ys each is =
    bits_from_rest w (product (map number ys)) (product (map number (splice n xs ys)))
    (product_splice (2 ^ w) n xs ys (bits w (product (map number xs))) is (last_bits w (product (map number xs))))
variadic-splice and w n xs ys each is =
    value-splice (and_all w) and_words w (λ x zs. refl) and_words_assoc (and_neutral w)
    (all_wide (and_all w) (λ a b. a && b) w (length-replicate w true) (λ x zs. refl)) n xs ys each is
variadic-splice or w n xs ys each is =
    value-splice (or_all w) or_words w (λ x zs. refl) or_words_assoc (or_neutral w)
    (all_wide (or_all w) (λ a b. a || b) w (length-replicate w false) (λ x zs. refl)) n xs ys each is
variadic-splice xor w n xs ys each is =
    value-splice (xor_all w) xor_words w (λ x zs. refl) xor_words_assoc (xor_neutral w)
    (all_wide (xor_all w) xor_bits w (length-replicate w false) (λ x zs. refl)) n xs ys each is

-- ---- joined words

words-append : (xs ys : List Word) → concat_words (xs ++ ys) ≡ concat_words xs ++ concat_words ys
words-append [] ys = refl
words-append (x ∷ xs) ys = ap (λ z. x ++ z) (words-append xs ys) ∙ sym (append_assoc x (concat_words xs) (concat_words ys))

pub words-splice : (n : ℕ) (xs ys : List Word) → slice_get ys n ≡ Some (concat_words xs) → concat_words ys ≡ concat_words (splice n xs ys)
words-splice n xs [] is = cc
words-splice zero xs (z ∷ ys) is =
    let same : z ≡ concat_words xs = cc in
    ap (λ q. q ++ concat_words ys) same ∙ sym (words-append xs ys)
words-splice (suc n) xs (z ∷ ys) is = ap (λ q. z ++ q) (words-splice n xs ys is)
