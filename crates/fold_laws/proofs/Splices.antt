-- Lists with others in the place of an element.
use Rattle.std.proofs.Common.{◌≡◌, ◌⊎◌, ℕ, zero, suc, ◌+◌, Bool, false, List, [], ◌∷◌, ◌++◌, length, map, Some, slice_get, refl, sym, ap, ◌∙◌, inl, inr, arith, length-append}
use Rattle.std.specs.List.{list_any}
use Rattle.std.proofs.lemmas.List.{map-append}
use Rattle.wiring.specs.Lists.{total}
use Rattle.wiring.specs.Wiring.{In}
use Rattle.wiring.proofs.Members.{In-append_cases}
use Rattle.wiring.proofs.Totals.{total-append}
use Rattle.stored_form.specs.Bytes.{Each}
use Rattle.op_checks.proofs.Widths.{neither}
use Rattle.fold_laws.specs.Nested.{splice}

-- ---- lengths, members, maps

module _ {A : Type 0} where
  pub length-splice : (n : ℕ) (ys xs : List A) (x : A) → slice_get xs n ≡ Some x → length (splice n ys xs) + 1 ≡ length ys + length xs
  length-splice n ys [] x is = cc
  length-splice zero ys (z ∷ xs) x is = let sum : length (ys ++ xs) ≡ length ys + length xs = length-append ys xs in omega arith
  length-splice (suc n) ys (z ∷ xs) x is = let rest : length (splice n ys xs) + 1 ≡ length ys + length xs = length-splice n ys xs x is in omega arith

  pub In-splice : (x : A) (n : ℕ) (ys xs : List A) → In x (splice n ys xs) → In x ys ⊎ In x xs
  In-splice x n ys [] here = absurd here
  In-splice x zero ys (z ∷ xs) here = go (In-append_cases x ys xs here)
    where
      go : In x ys ⊎ In x xs → In x ys ⊎ In x (z ∷ xs)
      go (inl there) = inl there
      go (inr there) = inr (inr there)
  In-splice x (suc n) ys (z ∷ xs) (inl same) = inr (inl same)
  In-splice x (suc n) ys (z ∷ xs) (inr here) = go (In-splice x n ys xs here)
    where
      go : In x ys ⊎ In x xs → In x ys ⊎ In x (z ∷ xs)
      go (inl there) = inl there
      go (inr there) = inr (inr there)

pub map-splice : {A B : Type 0} (f : A → B) (n : ℕ) (ys xs : List A) → map f (splice n ys xs) ≡ splice n (map f ys) (map f xs)
map-splice {A} {B} f n ys [] = refl
map-splice {A} {B} f zero ys (x ∷ xs) = map-append f ys xs
map-splice {A} {B} f (suc n) ys (x ∷ xs) = ap (λ zs. f x ∷ zs) (map-splice f n ys xs)

-- ---- what holds of each element, and sums

module _ {A : Type 0} where
  none-append : (test : A → Bool) (ys xs : List A) → list_any test ys ≡ false → list_any test xs ≡ false → list_any test (ys ++ xs) ≡ false
  none-append test [] xs inner outer = outer
  none-append test (y ∷ ys) xs inner outer =
      let parts = neither (test y) (list_any test ys) inner in
      let rest : list_any test (ys ++ xs) ≡ false = none-append test ys xs parts.1 outer in
      rw (parts.0, rest) refl

  pub none-splice : (test : A → Bool) (n : ℕ) (ys xs : List A) → list_any test ys ≡ false → list_any test xs ≡ false → list_any test (splice n ys xs) ≡ false
  none-splice test n ys [] inner outer = refl
  none-splice test zero ys (x ∷ xs) inner outer = none-append test ys xs inner (neither (test x) (list_any test xs) outer).1
  none-splice test (suc n) ys (x ∷ xs) inner outer =
      let parts = neither (test x) (list_any test xs) outer in
      let rest : list_any test (splice n ys xs) ≡ false = none-splice test n ys xs inner parts.1 in
      rw (parts.0, rest) refl

  each-append : (P : A → Type 0) (ys xs : List A) → Each P ys → Each P xs → Each P (ys ++ xs)
  each-append P [] xs inner outer = outer
  each-append P (y ∷ ys) xs inner outer = (inner.0, each-append P ys xs inner.1 outer)

  pub each-splice : (P : A → Type 0) (n : ℕ) (ys xs : List A) → Each P ys → Each P xs → Each P (splice n ys xs)
  each-splice P n ys [] inner outer = tt
  each-splice P zero ys (x ∷ xs) inner outer = each-append P ys xs inner outer.1
  each-splice P (suc n) ys (x ∷ xs) inner outer = (outer.0, each-splice P n ys xs inner outer.1)

pub total-splice : (n : ℕ) (ks ms : List ℕ) → slice_get ms n ≡ Some (total ks) → total (splice n ks ms) ≡ total ms
total-splice n ks [] is = cc
total-splice zero ks (m ∷ ms) is =
    let same : m ≡ total ks = cc in
    total-append ks ms ∙ ap (λ a. a + total ms) (sym same)
total-splice (suc n) ks (m ∷ ms) is = ap (λ a. m + a) (total-splice n ks ms is)
