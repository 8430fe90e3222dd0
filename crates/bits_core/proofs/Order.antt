-- The order of words of one width.
use Rattle.std.proofs.Common.{◌≡◌, refl, sym, ap, ap₂, ◌∙◌, ℕ, suc, ◌+◌, ◌-◌, ◌*◌, ◌/◌, ◌^◌, ◌≤◌, ◌≢◌, ◌==◌, Bool, true, false, cond, [], ◌∷◌, length, arith, ℤ, pos, negsuc, nat_lt, int_lt, nat_cmp, Less, Equal, Greater, eq-eqb, eqb-true, ltb-true, lt-ltb, true≢false}
use Rattle.std.proofs.lemmas.Bool.Decides.{nat_tests}
use Rattle.std.specs.Cmp.{both_ways}
use Rattle.std.specs.Ordering.{is_lt, is_eq, is_gt}
use Rattle.std.proofs.lemmas.Nat.{shr_high}
use Rattle.bits_core.specs.SameWord.{same_word_self, same_from_test}
use Rattle.bits_core.specs.Word.{Word, bit, number, sign, signed, less, signed_less, same_word, ordering, order}
use Rattle.bits_core.proofs.Numbers.{number_below, same_from_number}
use Rattle.bits_core.proofs.Complement.{signed-natural, signed-negative}

-- the top bit stands above the rest of the number
pub top_bit : (x : Word) → 1 ≤ length x → (number x / 2 ^ (length x - 1) == 1) ≡ sign x
top_bit [] h = absurd (omega arith)
top_bit (b ∷ x) h =
    let e : suc (length x) - 1 ≡ length x = omega arith in
    ap (λ (k : ℕ). (bit b * 2 ^ length x + number x) / 2 ^ k == 1) e
    ∙ ap (λ (m : ℕ). m == 1) (shr_high (bit b) (length x) (number x) (number_below x)) ∙ test b
  where
    test : (b : Bool) → (bit b == 1) ≡ b
    test true = refl
    test false = refl

-- words of one width are the same where their numbers are
pub same_word-number : (x y : Word) → length x ≡ length y → same_word x y ≡ (number x == number y)
same_word-number x y l =
    both_ways (same_word x y) (number x == number y)
    (λ h. eq-eqb (number x) (number y) (ap number (same_from_test x y h)))
    (λ h. ap (same_word x) (sym (same_from_number x y l (eqb-true (number x) (number y) h))) ∙ same_word_self x)

pub order-numbers : (x y : Word) → length x ≡ length y → nat_cmp (number x) (number y) ≡ order false x y
order-numbers x y l =
    two_tests (less x y) (number x == number y) ∙ ap (ordering (less x y)) (sym (same_word-number x y l))
  where
    two_tests : (s t : Bool) → cond s Less (cond t Equal Greater) ≡ ordering s t
    two_tests true t = refl
    two_tests false true = refl
    two_tests false false = refl

-- of words with one sign the signed readings are in the order of the numbers
pub signed_less_same_sign : (x y : Word) → length x ≡ length y → sign x ≡ sign y → signed_less x y ≡ less x y
signed_less_same_sign x y l s = go (sign x) refl
  where
    go : (b : Bool) → sign x ≡ b → signed_less x y ≡ less x y
    go false h = ap₂ int_lt (signed-natural x h) (signed-natural y (sym s ∙ h))
    go true h =
        let power : 2 ^ length x ≡ 2 ^ length y = ap (λ (k : ℕ). 2 ^ k) l in
        ap₂ int_lt (signed-negative x h) (signed-negative y (sym s ∙ h))
        ∙ both_ways (nat_lt (2 ^ length y - 1 - number y) (2 ^ length x - 1 - number x)) (less x y)
        (λ t. lt-ltb (number x) (number y) (omega (arith, ltb-true (2 ^ length y - 1 - number y) (2 ^ length x - 1 - number x) t)))
        (λ t. lt-ltb (2 ^ length y - 1 - number y) (2 ^ length x - 1 - number x)
        (omega (arith, ltb-true (number x) (number y) t, number_below x, number_below y)))

pub order_same_sign : (x y : Word) → length x ≡ length y → sign x ≡ sign y → nat_cmp (number x) (number y) ≡ order true x y
order_same_sign x y l s =
    order-numbers x y l ∙ ap (λ (b : Bool). ordering b (same_word x y)) (sym (signed_less_same_sign x y l s))

pub order-negative : (x y : Word) → sign x ≡ true → sign y ≡ false → order true x y ≡ Less
order-negative x y h k =
    ap (λ (b : Bool). ordering b (same_word x y)) (ap₂ int_lt (signed-negative x h) (signed-natural y k))

pub order-natural : (x y : Word) → sign x ≡ false → sign y ≡ true → order true x y ≡ Greater
order-natural x y h k =
    ap₂ ordering (ap₂ int_lt (signed-natural x h) (signed-negative y k)) (unlike (same_word x y) refl)
  where
    unlike : (b : Bool) → same_word x y ≡ b → same_word x y ≡ false
    unlike true e = absurd (true≢false (sym k ∙ ap sign (sym (same_from_test x y e)) ∙ h))
    unlike false e = e

-- words of two widths are not the same
pub same_word-lengths : (x y : Word) → length x ≢ length y → same_word x y ≡ false
same_word-lengths x y h = go (same_word x y) refl
  where
    go : (b : Bool) → same_word x y ≡ b → same_word x y ≡ false
    go true e = absurd (h (ap length (same_from_test x y e)))
    go false e = e

-- ---- what the order says

nat_greater : (m n : ℕ) → is_gt (nat_cmp m n) ≡ nat_lt n m
nat_greater m n = grind (arith, nat_tests)

-- with the signed readings, where the signs are alike and where they differ
signed_greater_alike : (x y : Word) → length x ≡ length y → sign x ≡ sign y → is_gt (order true x y) ≡ signed_less y x
signed_greater_alike x y l s =
    ap is_gt (sym (order_same_sign x y l s)) ∙ nat_greater (number x) (number y)
    ∙ sym (signed_less_same_sign y x (sym l) (sym s))

signed_greater : (x y : Word) → length x ≡ length y → is_gt (order true x y) ≡ signed_less y x
signed_greater x y l = go (sign x) (sign y) refl refl
  where
    go : (a b : Bool) → sign x ≡ a → sign y ≡ b → is_gt (order true x y) ≡ signed_less y x
    go true false h k = ap is_gt (order-negative x y h k) ∙ sym (ap₂ int_lt (signed-natural y k) (signed-negative x h))
    go false true h k = ap is_gt (order-natural x y h k) ∙ sym (ap₂ int_lt (signed-negative y k) (signed-natural x h))
    go true true h k = signed_greater_alike x y l (h ∙ sym k)
    go false false h k = signed_greater_alike x y l (h ∙ sym k)

is_lt-ordering : (s t : Bool) → is_lt (ordering s t) ≡ s
is_lt-ordering true t = refl
is_lt-ordering false true = refl
is_lt-ordering false false = refl

pub is_lt-order : (s : Bool) (x y : Word) → is_lt (order s x y) ≡ cond s (signed_less x y) (less x y)
is_lt-order true x y = is_lt-ordering (signed_less x y) (same_word x y)
is_lt-order false x y = is_lt-ordering (less x y) (same_word x y)

pub is_gt-order : (s : Bool) (x y : Word) → length x ≡ length y → is_gt (order s x y) ≡ cond s (signed_less y x) (less y x)
is_gt-order true x y l = signed_greater x y l
is_gt-order false x y l = ap is_gt (sym (order-numbers x y l)) ∙ nat_greater (number x) (number y)

nat_lt_self : (n : ℕ) → nat_lt n n ≡ false
nat_lt_self n = grind (arith, nat_tests)

int_lt_self : (z : ℤ) → int_lt z z ≡ false
int_lt_self (pos n) = nat_lt_self n
int_lt_self (negsuc n) = nat_lt_self n

pub less_self : (x : Word) → less x x ≡ false
less_self x = nat_lt_self (number x)

pub signed_less_self : (x : Word) → signed_less x x ≡ false
signed_less_self x = int_lt_self (signed x)

pub order_self : (s : Bool) (x : Word) → order s x x ≡ Equal
order_self true x = ap₂ ordering (signed_less_self x) (same_word_self x)
order_self false x = ap₂ ordering (less_self x) (same_word_self x)

is_eq-ordering : (s : Bool) → is_eq (ordering s false) ≡ false
is_eq-ordering true = refl
is_eq-ordering false = refl

pub is_eq-order : (s : Bool) (x y : Word) → is_eq (order s x y) ≡ same_word x y
is_eq-order s x y = go s (same_word x y) refl
  where
    go : (s t : Bool) → same_word x y ≡ t → is_eq (order s x y) ≡ same_word x y
    go s true h = ap (λ (u : Word). is_eq (order s x u)) (sym (same_from_test x y h)) ∙ ap is_eq (order_self s x) ∙ sym h
    go true false h = ap (λ (t : Bool). is_eq (ordering (signed_less x y) t)) h ∙ is_eq-ordering (signed_less x y) ∙ sym h
    go false false h = ap (λ (t : Bool). is_eq (ordering (less x y) t)) h ∙ is_eq-ordering (less x y) ∙ sym h
