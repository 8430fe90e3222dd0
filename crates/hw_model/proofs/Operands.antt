-- Operations with any number of operands, worked from the last operand to the first.
use Rattle.std.proofs.Common.{◌≡◌, ℕ, zero, suc, ◌+◌, ◌-◌, ◌*◌, ◌^◌, ◌<◌, ◌≤◌, List, [], ◌∷◌, length, map, drop, get_or, arith, refl, sym, ap, ◌∙◌, add_comm, Bool, true, ◌&&◌, ◌||◌, negsuc, length-append}
use Rattle.std.proofs.lemmas.List.{length-replicate}
use Rattle.std.proofs.Math.Nat.{mul_comm}
use Rattle.std.proofs.Math.Seq.{drop-cons}
use Rattle.std.proofs.lemmas.List.Elements.{All-drop, All-get_or}
use Rattle.std.proofs.lemmas.Nat.{pow-add}
use Rattle.wiring.specs.Lists.{total}
use Rattle.bits_core.specs.Word.{Word, number, bits, bits_of_ℤ, add as sum_of, mul as product_of, xor as differ, bitwise, zeros, ones, not_word}
use Rattle.bits_core.proofs.Numbers.{length-bits}
use Rattle.bits_core.proofs.Arithmetic.{add-bits_left, mul-bits_left, add_words_comm, mul_words_comm}
use Rattle.bits_core.proofs.Bitwise.{length-bitwise}
use Rattle.bits_core.proofs.Complement.{not-bits}
use Rattle.bits_core.proofs.Storage.{bits-zero}
use Rattle.hw_model.specs.IntegerKinds.{AllHave}
use Rattle.hw_model.specs.Kinds.{Variadic}
use Rattle.hw_model.specs.Kinds.Variadic.{add, mul, and, or, xor}
use Rattle.hw_model.specs.Value.{concat_words, product, and_all, or_all, xor_all, variadic_value, with_operand}

-- one more operand before
pub FoldsBy : (List Word → Word) → (Word → Word → Word) → ℕ → Type 0
FoldsBy value step w = (x : Word) (ys : List Word) → length x ≡ w → AllHave w ys → step x (value ys) ≡ value (x ∷ ys)

pub fold_more : (value : List Word → Word) (step : Word → Word → Word) (w : ℕ) → FoldsBy value step w
    → (xs : List Word) (i j : ℕ) (x all next : Word) → AllHave w xs → i + 1 ≡ j → i < length xs → x ≡ get_or xs i x
    → all ≡ value (drop j xs) → next ≡ step x all → next ≡ value (drop i xs)
unfolding FoldsBy
fold_more value step w more xs i j x all next have e h g a n =
    let own : length x ≡ w = rw (sym g) at (All-get_or (λ (u : Word). length u ≡ w) xs i x h have) in
    let k : j ≡ suc i = omega arith in
    let d : drop i xs ≡ x ∷ drop (suc i) xs = drop-cons xs i x h ∙ ap (λ (u : Word). u ∷ drop (suc i) xs) (sym g) in
    n ∙ ap (step x) (a ∙ ap (λ (m : ℕ). value (drop m xs)) k)
    ∙ more x (drop (suc i) xs) own (All-drop (λ (u : Word). length u ≡ w) (suc i) xs have) ∙ ap value (sym d)

-- ---- widths

pub head_has : (w : ℕ) (x : Word) (xs : List Word) → AllHave w (x ∷ xs) → length x ≡ w
head_has w x xs have = have 0 x (omega arith)

pub tail_have : (w : ℕ) (x : Word) (xs : List Word) → AllHave w (x ∷ xs) → AllHave w xs
tail_have w x xs have k d h = have (suc k) d (omega (arith, h))

-- an operand is as wide as the value of those after it
pub alike : (w : ℕ) (xs : List Word) (i : ℕ) (x all : Word) → AllHave w xs → i < length xs → x ≡ get_or xs i x → length all ≡ w
    → length x ≡ length all
alike w xs i x all have h a e =
    let own : length x ≡ w = rw (sym a) at (All-get_or (λ (u : Word). length u ≡ w) xs i x h have) in
    own ∙ sym e

pub width_folded : (value : List Word → Word) (f : Bool → Bool → Bool) (w : ℕ) → length (value []) ≡ w
    → ((x : Word) (xs : List Word) → value (x ∷ xs) ≡ bitwise f x (value xs)) → (xs : List Word) → AllHave w xs → length (value xs) ≡ w
width_folded value f w empty more [] have = empty
width_folded value f w empty more (x ∷ xs) have =
    let own : length x ≡ w = head_has w x xs have in
    let rest : length (value xs) ≡ w = width_folded value f w empty more xs (tail_have w x xs have) in
    ap length (more x xs) ∙ length-bitwise f x (value xs) (own ∙ sym rest) ∙ own

-- a value of all operands from one location on
pub width_from : (value : List Word → Word) (w : ℕ) → ((xs : List Word) → AllHave w xs → length (value xs) ≡ w)
    → (xs : List Word) (j : ℕ) (all : Word) → AllHave w xs → all ≡ value (drop j xs) → length all ≡ w
width_from value w wide xs j all have e = ap length e ∙ wide (drop j xs) (All-drop (λ (u : Word). length u ≡ w) j xs have)

-- ---- sums and products

pub sum_folds : (w : ℕ) → FoldsBy (λ xs. bits w (total (map number xs))) sum_of w
unfolding FoldsBy
sum_folds w x ys own have =
    add_words_comm x (bits w (total (map number ys))) (own ∙ sym (length-bits w (total (map number ys))))
    ∙ add-bits_left w (total (map number ys)) x ∙ ap (bits w) (add_comm (total (map number ys)) (number x))

pub product_folds : (w : ℕ) → FoldsBy (λ xs. bits w (product (map number xs))) product_of w
unfolding FoldsBy
product_folds w x ys own have =
    mul_words_comm x (bits w (product (map number ys))) (own ∙ sym (length-bits w (product (map number ys))))
    ∙ mul-bits_left w (product (map number ys)) x ∙ ap (bits w) (mul_comm (product (map number ys)) (number x))

-- ---- each operation with any number of operands

pub variadic_folds : (v : Variadic) (w : ℕ) → FoldsBy (variadic_value v w) (with_operand v) w
unfolding FoldsBy
variadic_folds add w x ys own have = sum_folds w x ys own have
variadic_folds mul w x ys own have = product_folds w x ys own have
variadic_folds and w x ys own have = refl
variadic_folds or w x ys own have = refl
variadic_folds xor w x ys own have = refl

pub variadic_has : (v : Variadic) (w : ℕ) (xs : List Word) → AllHave w xs → length (variadic_value v w xs) ≡ w
variadic_has add w xs have = length-bits w (total (map number xs))
variadic_has mul w xs have = length-bits w (product (map number xs))
variadic_has and w xs have = width_folded (and_all w) (λ a b. a && b) w (length-replicate w _) (λ x ys. refl) xs have
variadic_has or w xs have = width_folded (or_all w) (λ a b. a || b) w (length-replicate w _) (λ x ys. refl) xs have
variadic_has xor w xs have = width_folded (xor_all w) differ w (length-replicate w _) (λ x ys. refl) xs have

-- ---- the integers below 0

-- 128 bits from which a number is taken are, in a word of at most as many, the bits of -1 less the number
pub bits_below_zero : (w n : ℕ) → w ≤ 128 → n < 2 ^ 128 → bits w (340282366920938463463374607431768211455 - n) ≡ bits_of_ℤ w (negsuc n)
bits_below_zero w n h f =
    let split : (128 - w) + w ≡ 128 = omega arith in
    let power : 2 ^ (128 - w) * 2 ^ w ≡ 2 ^ 128 = sym (pow-add 2 (128 - w) w) ∙ ap (λ k. 2 ^ k) split in
    let e : n + (340282366920938463463374607431768211455 - n) + 1 ≡ 2 ^ (128 - w) * 2 ^ w = omega (arith, power, f) in
    sym (not-bits w n (340282366920938463463374607431768211455 - n) (2 ^ (128 - w)) e)

not_zeros : (w : ℕ) → not_word (zeros w) ≡ ones w
not_zeros zero = refl
not_zeros (suc w) = ap (λ (x : Word). true ∷ x) (not_zeros w)

pub bits_of_ones : (w : ℕ) → w ≤ 128 → bits w 340282366920938463463374607431768211455 ≡ ones w
bits_of_ones w h =
    let e : bits w (340282366920938463463374607431768211455 - 0) ≡ bits_of_ℤ w (negsuc 0) = bits_below_zero w 0 h (omega arith) in
    e ∙ ap not_word (bits-zero w) ∙ not_zeros w

-- ---- joined words

pub joined_length : (xs : List Word) → length (concat_words xs) ≡ total (map length xs)
joined_length [] = refl
joined_length (x ∷ xs) = length-append x (concat_words xs) ∙ ap (λ n. length x + n) (joined_length xs)

pub joined_from : (xs : List Word) (j : ℕ) → total (map length (drop j xs)) ≤ total (map length xs)
joined_from xs zero = omega arith
joined_from [] (suc j) = omega arith
joined_from (x ∷ xs) (suc j) = omega (arith, joined_from xs j)

pub joined_within : (xs : List Word) (i j : ℕ) (x all : Word) → i + 1 ≡ j → i < length xs → x ≡ get_or xs i x → all ≡ concat_words (drop j xs)
    → length x + length all ≤ total (map length xs)
joined_within xs i j x all e h a v =
    let k : j ≡ suc i = omega arith in
    let w : length all ≡ total (map length (drop (suc i) xs)) = ap length v ∙ joined_length (drop j xs) ∙ ap (λ n. total (map length (drop n xs))) k in
    let d : drop i xs ≡ x ∷ drop (suc i) xs = drop-cons xs i x h ∙ ap (λ (u : Word). u ∷ drop (suc i) xs) (sym a) in
    let t : total (map length (drop i xs)) ≡ length x + total (map length (drop (suc i) xs)) = ap (λ us. total (map length us)) d in
    omega (arith, joined_from xs i, w, t)
