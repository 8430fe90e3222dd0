-- Operations bit by bit, on words and on their numbers.
use Rattle.std.proofs.Common.{◌≡◌, refl, sym, ap, ap₂, ◌∙◌, ℕ, zero, suc, ◌+◌, ◌/◌, ◌%◌, ◌^◌, ◌<◌, ◌==◌, min, max, Bool, true, false, ◌&&◌, ◌||◌, [], ◌∷◌, length, replicate, arith, mod-lt, bit_and, bit_or, bit_xor}
use Rattle.std.proofs.lemmas.Nat.Bits.{bit_at_and, bit_at_or, bit_at_xor}
use Rattle.bits_core.specs.Word.{Word, number, bits, xor, bitwise, and_words, or_words, xor_words, not_word, zeros, ones}
use Rattle.bits_core.proofs.Numbers.{bits-number}

pub length-bitwise : (f : Bool → Bool → Bool) (x y : Word) → length x ≡ length y → length (bitwise f x y) ≡ length x
length-bitwise f [] y h = refl
length-bitwise f (a ∷ x) [] h = absurd (omega arith)
length-bitwise f (a ∷ x) (b ∷ y) h = ap suc (length-bitwise f x y (omega arith))

-- ---- two bits as numbers

bit_facts : (P : ℕ → ℕ → Type 0) → P 0 0 → P 0 1 → P 1 0 → P 1 1 → (m n : ℕ) → m < 2 → n < 2 → P m n
bit_facts P a b c d zero zero h k = a
bit_facts P a b c d zero (suc zero) h k = b
bit_facts P a b c d (suc zero) zero h k = c
bit_facts P a b c d (suc zero) (suc zero) h k = d
bit_facts P a b c d (suc (suc m)) n h k = absurd (omega arith)
bit_facts P a b c d zero (suc (suc n)) h k = absurd (omega arith)
bit_facts P a b c d (suc zero) (suc (suc n)) h k = absurd (omega arith)

below_two : (n : ℕ) → n % 2 < 2
below_two n = mod-lt n (omega arith)

-- ---- the same on numbers

bits-bitwise : (f : Bool → Bool → Bool) (g : ℕ → ℕ → ℕ) → ((a b w : ℕ) → f (a / 2 ^ w % 2 == 1) (b / 2 ^ w % 2 == 1) ≡ (g a b / 2 ^ w % 2 == 1)) → (w a b : ℕ) → bitwise f (bits w a) (bits w b) ≡ bits w (g a b)
bits-bitwise f g each zero a b = refl
bits-bitwise f g each (suc w) a b =
    ap₂ (λ (h : Bool) (hs : Word). h ∷ hs) (each a b w) (bits-bitwise f g each w a b)

of_numbers : (f : Bool → Bool → Bool) (g : ℕ → ℕ → ℕ) → ((w a b : ℕ) → bitwise f (bits w a) (bits w b) ≡ bits w (g a b)) → (x y : Word) → length x ≡ length y → bits (length x) (g (number x) (number y)) ≡ bitwise f x y
of_numbers f g same x y l =
    sym (same (length x) (number x) (number y))
    ∙ ap₂ (bitwise f) (bits-number x) (ap (λ (w : ℕ). bits w (number y)) l ∙ bits-number y)

pub and_words-bits : (w a b : ℕ) → and_words (bits w a) (bits w b) ≡ bits w (bit_and a b)
and_words-bits =
    bits-bitwise (λ a b. a && b) bit_and
    (λ a b w. bit_facts (λ m n. ((m == 1) && (n == 1)) ≡ (min m n == 1)) refl refl refl refl (a / 2 ^ w % 2) (b / 2 ^ w % 2) (below_two (a / 2 ^ w)) (below_two (b / 2 ^ w))
    ∙ ap (λ (m : ℕ). m == 1) (sym (bit_at_and a b w)))

pub or_words-bits : (w a b : ℕ) → or_words (bits w a) (bits w b) ≡ bits w (bit_or a b)
or_words-bits =
    bits-bitwise (λ a b. a || b) bit_or
    (λ a b w. bit_facts (λ m n. ((m == 1) || (n == 1)) ≡ (max m n == 1)) refl refl refl refl (a / 2 ^ w % 2) (b / 2 ^ w % 2) (below_two (a / 2 ^ w)) (below_two (b / 2 ^ w))
    ∙ ap (λ (m : ℕ). m == 1) (sym (bit_at_or a b w)))

pub xor_words-bits : (w a b : ℕ) → xor_words (bits w a) (bits w b) ≡ bits w (bit_xor a b)
xor_words-bits =
    bits-bitwise xor bit_xor
    (λ a b w. bit_facts (λ m n. xor (m == 1) (n == 1) ≡ ((m + n) % 2 == 1)) refl refl refl refl (a / 2 ^ w % 2) (b / 2 ^ w % 2) (below_two (a / 2 ^ w)) (below_two (b / 2 ^ w))
    ∙ ap (λ (m : ℕ). m == 1) (sym (bit_at_xor a b w)))

pub bits-and : (x y : Word) → length x ≡ length y → bits (length x) (bit_and (number x) (number y)) ≡ and_words x y
bits-and = of_numbers (λ a b. a && b) bit_and and_words-bits

pub bits-or : (x y : Word) → length x ≡ length y → bits (length x) (bit_or (number x) (number y)) ≡ or_words x y
bits-or = of_numbers (λ a b. a || b) bit_or or_words-bits

pub bits-xor : (x y : Word) → length x ≡ length y → bits (length x) (bit_xor (number x) (number y)) ≡ xor_words x y
bits-xor = of_numbers xor bit_xor xor_words-bits

-- ---- laws

pub bitwise_comm : (f : Bool → Bool → Bool) → ((a b : Bool) → f a b ≡ f b a) → (x y : Word) → bitwise f x y ≡ bitwise f y x
bitwise_comm f comm [] [] = refl
bitwise_comm f comm [] (b ∷ y) = refl
bitwise_comm f comm (a ∷ x) [] = refl
bitwise_comm f comm (a ∷ x) (b ∷ y) = ap₂ (λ (h : Bool) (hs : Word). h ∷ hs) (comm a b) (bitwise_comm f comm x y)

pub bitwise_assoc : (f : Bool → Bool → Bool) → ((a b c : Bool) → f (f a b) c ≡ f a (f b c)) → (x y z : Word) → bitwise f (bitwise f x y) z ≡ bitwise f x (bitwise f y z)
bitwise_assoc f assoc [] y z = refl
bitwise_assoc f assoc (a ∷ x) [] z = refl
bitwise_assoc f assoc (a ∷ x) (b ∷ y) [] = refl
bitwise_assoc f assoc (a ∷ x) (b ∷ y) (c ∷ z) = ap₂ (λ (h : Bool) (hs : Word). h ∷ hs) (assoc a b c) (bitwise_assoc f assoc x y z)

-- what leaves each bit alone leaves a word alone
bitwise-neutral : (f : Bool → Bool → Bool) (e : Bool) → ((a : Bool) → f a e ≡ a) → (x : Word) → bitwise f x (replicate (length x) e) ≡ x
bitwise-neutral f e same [] = refl
bitwise-neutral f e same (a ∷ x) = ap₂ (λ (h : Bool) (hs : Word). h ∷ hs) (same a) (bitwise-neutral f e same x)

-- what makes one bit of each makes that word of a word
bitwise-constant : (f : Bool → Bool → Bool) (e r : Bool) → ((a : Bool) → f a e ≡ r) → (x : Word) → bitwise f x (replicate (length x) e) ≡ replicate (length x) r
bitwise-constant f e r same [] = refl
bitwise-constant f e r same (a ∷ x) = ap₂ (λ (h : Bool) (hs : Word). h ∷ hs) (same a) (bitwise-constant f e r same x)

pub and_words_comm : (x y : Word) → and_words x y ≡ and_words y x
and_words_comm = bitwise_comm (λ a b. a && b) (λ a b. and_bits_comm a b)
  where
    and_bits_comm : (a b : Bool) → (a && b) ≡ (b && a)
    and_bits_comm true true = refl
    and_bits_comm true false = refl
    and_bits_comm false true = refl
    and_bits_comm false false = refl

pub or_words_comm : (x y : Word) → or_words x y ≡ or_words y x
or_words_comm = bitwise_comm (λ a b. a || b) (λ a b. or_bits_comm a b)
  where
    or_bits_comm : (a b : Bool) → (a || b) ≡ (b || a)
    or_bits_comm true true = refl
    or_bits_comm true false = refl
    or_bits_comm false true = refl
    or_bits_comm false false = refl

pub xor_words_comm : (x y : Word) → xor_words x y ≡ xor_words y x
xor_words_comm = bitwise_comm xor (λ a b. xor_bits_comm a b)
  where
    xor_bits_comm : (a b : Bool) → xor a b ≡ xor b a
    xor_bits_comm true true = refl
    xor_bits_comm true false = refl
    xor_bits_comm false true = refl
    xor_bits_comm false false = refl

pub and_words_assoc : (x y z : Word) → and_words (and_words x y) z ≡ and_words x (and_words y z)
and_words_assoc = bitwise_assoc (λ a b. a && b) (λ a b c. go a b c)
  where
    go : (a b c : Bool) → ((a && b) && c) ≡ (a && (b && c))
    go true b c = refl
    go false b c = refl

pub or_words_assoc : (x y z : Word) → or_words (or_words x y) z ≡ or_words x (or_words y z)
or_words_assoc = bitwise_assoc (λ a b. a || b) (λ a b c. go a b c)
  where
    go : (a b c : Bool) → ((a || b) || c) ≡ (a || (b || c))
    go true b c = refl
    go false b c = refl

pub xor_words_assoc : (x y z : Word) → xor_words (xor_words x y) z ≡ xor_words x (xor_words y z)
xor_words_assoc = bitwise_assoc xor (λ a b c. go a b c)
  where
    go : (a b c : Bool) → xor (xor a b) c ≡ xor a (xor b c)
    go true true true = refl
    go true true false = refl
    go true false c = refl
    go false b c = refl

pub and_words-ones : (x : Word) → and_words x (ones (length x)) ≡ x
and_words-ones = bitwise-neutral (λ a b. a && b) true (λ a. go a)
  where
    go : (a : Bool) → (a && true) ≡ a
    go true = refl
    go false = refl

pub and_words-zeros : (x : Word) → and_words x (zeros (length x)) ≡ zeros (length x)
and_words-zeros = bitwise-constant (λ a b. a && b) false false (λ a. go a)
  where
    go : (a : Bool) → (a && false) ≡ false
    go true = refl
    go false = refl

pub or_words-zeros : (x : Word) → or_words x (zeros (length x)) ≡ x
or_words-zeros = bitwise-neutral (λ a b. a || b) false (λ a. go a)
  where
    go : (a : Bool) → (a || false) ≡ a
    go true = refl
    go false = refl

pub or_words-ones : (x : Word) → or_words x (ones (length x)) ≡ ones (length x)
or_words-ones = bitwise-constant (λ a b. a || b) true true (λ a. go a)
  where
    go : (a : Bool) → (a || true) ≡ true
    go true = refl
    go false = refl

pub xor_words-zeros : (x : Word) → xor_words x (zeros (length x)) ≡ x
xor_words-zeros = bitwise-neutral xor false (λ a. go a)
  where
    go : (a : Bool) → xor a false ≡ a
    go true = refl
    go false = refl

pub xor_words-ones : (x : Word) → xor_words x (ones (length x)) ≡ not_word x
xor_words-ones [] = refl
xor_words-ones (true ∷ x) = ap (λ (hs : Word). false ∷ hs) (xor_words-ones x)
xor_words-ones (false ∷ x) = ap (λ (hs : Word). true ∷ hs) (xor_words-ones x)

pub and_words_self : (x : Word) → and_words x x ≡ x
and_words_self [] = refl
and_words_self (true ∷ x) = ap (λ (hs : Word). true ∷ hs) (and_words_self x)
and_words_self (false ∷ x) = ap (λ (hs : Word). false ∷ hs) (and_words_self x)

pub or_words_self : (x : Word) → or_words x x ≡ x
or_words_self [] = refl
or_words_self (true ∷ x) = ap (λ (hs : Word). true ∷ hs) (or_words_self x)
or_words_self (false ∷ x) = ap (λ (hs : Word). false ∷ hs) (or_words_self x)

pub xor_words_self : (x : Word) → xor_words x x ≡ zeros (length x)
xor_words_self [] = refl
xor_words_self (true ∷ x) = ap (λ (hs : Word). false ∷ hs) (xor_words_self x)
xor_words_self (false ∷ x) = ap (λ (hs : Word). false ∷ hs) (xor_words_self x)
