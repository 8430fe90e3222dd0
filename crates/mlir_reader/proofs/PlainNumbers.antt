-- Plain numbers: two names of one number are one name.
use Rattle.std.proofs.Common.{◌≡◌, ℕ, ◌+◌, ◌*◌, ◌^◌, ◌≤◌, ◌<◌, ◌⊎◌, true, false, not, ◌&&◌, List, [], ◌∷◌, drop, length, inl, inr, refl, sym, ap, ◌∙◌, arith, Some}
use Rattle.std.specs.List.{list_all}
use Rattle.std.proofs.Math.Nat.{pow-le-pow_right}
use Rattle.std.proofs.lemmas.Bool.{and_parts, cases_order, not-true}
use Rattle.std.proofs.lemmas.Option.{cond_some}
use Rattle.hw_model.specs.Types.{Name}
use Rattle.mlir_lexer.specs.Classes.{is_digit}
use Rattle.mlir_lexer.specs.Contents.{hex_value}
use Rattle.mlir_syntax.specs.Numerals.{number_in}
use Rattle.mlir_reader.specs.PlainNumbers.{is_short, begins_with_zero, is_plain_number, number_of}

digit_value : (b : ℕ) → is_digit b ≡ true → (hex_value b + 48 ≡ b) × (hex_value b ≤ 9)
digit_value b h = grind arith

digits_parts : (b : ℕ) (bs : List ℕ) → list_all is_digit (b ∷ bs) ≡ true → (is_digit b ≡ true) × (list_all is_digit bs ≡ true)
digits_parts b bs h = and_parts (is_digit b) (list_all is_digit bs) h

-- ---- reading digit by digit

-- the first bytes are digits that stand for a number; the others decide whether all are
pub record IsDecimalPrefix (bytes : List ℕ) (number at : ℕ) : Type 0 where
  pub digits : list_all is_digit bytes ≡ list_all is_digit (drop at bytes)
  pub same : number_in 10 0 bytes ≡ number_in 10 number (drop at bytes)
  pub small : number < 10 ^ at

pub fits_nine : (n i : ℕ) → n < 10 ^ i → i < 9 → n < 100000000
fits_nine n i small few =
    let most : 10 ^ i ≤ 10 ^ 8 = pow-le-pow_right (omega arith) {i = i} {j = 8} (omega (arith, few)) in
    omega (arith, small, most)

-- ---- names of one number

-- of two numbers, of which the second goes on at least as long, the one with the larger prefix is larger
larger : (f g : ℕ) (xs ys : List ℕ) → f < g → list_all is_digit xs ≡ true → length xs ≤ length ys → number_in 10 f xs < number_in 10 g ys
larger f g [] [] less all long = less
larger f g [] (y ∷ ys) less all long = larger f (g * 10 + hex_value y) [] ys (omega (arith, less)) refl (omega arith)
larger f g (x ∷ xs) [] less all long = absurd (omega (arith, long))
larger f g (x ∷ xs) (y ∷ ys) less all long =
    let p = digits_parts x xs all in
    let v = digit_value x p.0 in
    larger (f * 10 + hex_value x) (g * 10 + hex_value y) xs ys (omega (arith, less, v.1)) p.1 (omega (arith, long))

-- of one number and one prefix, and as many, digits are the same
same_digits : (f : ℕ) (xs ys : List ℕ) → list_all is_digit xs ≡ true → list_all is_digit ys ≡ true → length xs ≡ length ys
    → number_in 10 f xs ≡ number_in 10 f ys → xs ≡ ys
same_digits f [] [] a b long same = refl
same_digits f [] (y ∷ ys) a b long same = absurd (omega (arith, long))
same_digits f (x ∷ xs) [] a b long same = absurd (omega (arith, long))
same_digits f (x ∷ xs) (y ∷ ys) a b long same = go (cases_order (hex_value x) (hex_value y)) (same_digits (f * 10 + hex_value x) xs ys)
  where
    as_many : length xs ≡ length ys
    as_many = omega (arith, long)

    p : (is_digit x ≡ true) × (list_all is_digit xs ≡ true)
    p = digits_parts x xs a

    q : (is_digit y ≡ true) × (list_all is_digit ys ≡ true)
    q = digits_parts y ys b

    go : (hex_value x ≡ hex_value y) ⊎ ((hex_value x < hex_value y) ⊎ (hex_value y < hex_value x))
        → (list_all is_digit xs ≡ true → list_all is_digit ys ≡ true → length xs ≡ length ys → number_in 10 (f * 10 + hex_value x) xs ≡ number_in 10 (f * 10 + hex_value x) ys → xs ≡ ys)
        → x ∷ xs ≡ y ∷ ys
    go (inl e) rest =
        let first : x ≡ y = omega (arith, (digit_value x p.0).0, (digit_value y q.0).0, e) in
        let others = rest p.1 q.1 as_many (same ∙ ap (λ v. number_in 10 (f * 10 + v) ys) (sym e)) in
        ap (λ b. b ∷ xs) first ∙ ap (λ bs. y ∷ bs) others
    go (inr (inl less)) rest =
        let smaller = larger (f * 10 + hex_value x) (f * 10 + hex_value y) xs ys (omega (arith, less)) p.1 (omega (arith, as_many)) in
        absurd (omega (arith, smaller, same))
    go (inr (inr more)) rest =
        let smaller = larger (f * 10 + hex_value y) (f * 10 + hex_value x) ys xs (omega (arith, more)) q.1 (omega (arith, as_many)) in
        absurd (omega (arith, smaller, same))

-- what a plain number is
record IsPlain (name : Name) (n : ℕ) : Type 0 where
  some : 1 ≤ length name
  no_zero : begins_with_zero name ≡ false
  digits : list_all is_digit name ≡ true
  number : number_in 10 0 name ≡ n

plain : (name : Name) (n : ℕ) → number_of name ≡ Some n → IsPlain name n
unfolding number_of
plain name n e =
    let is = cond_some (is_plain_number name) (number_in 10 0 name) n e in
    let short = and_parts (is_short name) (not (begins_with_zero name) && list_all is_digit name) is.0 in
    let rest = and_parts (not (begins_with_zero name)) (list_all is_digit name) short.1 in
    let few = short.0 in
    record { some = grind (arith, few); no_zero = not-true (begins_with_zero name) rest.0; digits = rest.1; number = is.1 }

-- a number with more digits, of which the first is no zero, is larger
longer : (xs ys : Name) → list_all is_digit xs ≡ true → list_all is_digit ys ≡ true → begins_with_zero ys ≡ false
    → 1 ≤ length xs → length xs < length ys → number_in 10 0 xs < number_in 10 0 ys
longer [] ys a b no_zero some more = absurd (omega (arith, some))
longer (x ∷ xs) [] a b no_zero some more = absurd (omega (arith, more))
longer (x ∷ xs) (y ∷ []) a b no_zero some more = absurd (omega (arith, more))
longer (x ∷ xs) (y ∷ z ∷ ys) a b no_zero some more =
    let v = digit_value y (digits_parts y (z ∷ ys) b).0 in
    let prefix : 0 < 0 * 10 + hex_value y = grind (arith, v.0, no_zero) in
    larger 0 (0 * 10 + hex_value y) (x ∷ xs) (z ∷ ys) prefix a (omega (arith, more))

-- two plain numbers of one value are one name
pub one_number : (x y : Name) (n : ℕ) → number_of x ≡ Some n → number_of y ≡ Some n → x ≡ y
one_number x y n e f = go (cases_order (length x) (length y))
  where
    p : IsPlain x n
    p = plain x n e

    q : IsPlain y n
    q = plain y n f

    go : (length x ≡ length y) ⊎ ((length x < length y) ⊎ (length y < length x)) → x ≡ y
    go (inl long) = same_digits 0 x y p.digits q.digits long (p.number ∙ sym q.number)
    go (inr (inl less)) = let smaller = longer x y p.digits q.digits q.no_zero p.some less in absurd (omega (arith, smaller, p.number, q.number))
    go (inr (inr more)) = let smaller = longer y x q.digits p.digits p.no_zero q.some more in absurd (omega (arith, smaller, p.number, q.number))
