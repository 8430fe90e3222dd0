-- The leaves: each module without callees has one number among them.
use Rattle.std.proofs.Common.{◌≡◌, ℕ, zero, suc, ◌+◌, ◌<◌, ◌≤◌, List, [], ◌∷◌, length, Some, None, slice_get, refl, ap, ◌∙◌, arith}
use Rattle.sched_core.specs.State.{callees_of, leaves_from, leaves}

module _ {A : Type 0} where
  pub within_some : (xs : List A) (k : ℕ) (x : A) → slice_get xs k ≡ Some x → k < length xs
  within_some [] k x is = cc
  within_some (y ∷ ys) zero x is = omega arith
  within_some (y ∷ ys) (suc k) x is = let rest : k < length ys = within_some ys k x is in omega arith

  pub past_none : (xs : List A) (k : ℕ) → slice_get xs k ≡ None → length xs ≤ k
  past_none [] k is = omega arith
  past_none (y ∷ ys) zero is = cc
  past_none (y ∷ ys) (suc k) is = let rest : length ys ≤ k = past_none ys k is in omega arith

-- a leaf counted from k is at some position, and has no callees there
pub record IsLeafAt (k m : ℕ) (callees : List (List ℕ)) : Type 0 where
  pub at : ℕ
  pub is : m ≡ k + at
  pub within : at < length callees
  pub none : callees_of callees at ≡ []

later : (k m : ℕ) (row : List ℕ) (rest : List (List ℕ)) → IsLeafAt (k + 1) m rest → IsLeafAt k m (row ∷ rest)
later k m row rest leaf = record { at = suc leaf.at; is = omega (arith, leaf.is); within = omega (arith, leaf.within); none = leaf.none }

leaf_from : (k : ℕ) (callees : List (List ℕ)) (j m : ℕ) → slice_get (leaves_from k callees) j ≡ Some m → IsLeafAt k m callees
leaf_from k [] j m is = cc
leaf_from k ([] ∷ rest) zero m is = let same : m ≡ k = cc in record { at = 0; is = omega arith; within = omega arith; none = refl }
leaf_from k ([] ∷ rest) (suc j) m is = later k m [] rest (leaf_from (k + 1) rest j m is)
leaf_from k ((x ∷ xs) ∷ rest) j m is = later k m (x ∷ xs) rest (leaf_from (k + 1) rest j m is)

-- a leaf has no callees
pub leaf-callees : (callees : List (List ℕ)) (j m : ℕ) → slice_get (leaves callees) j ≡ Some m → callees_of callees m ≡ []
leaf-callees callees j m is =
    let leaf : IsLeafAt 0 m callees = leaf_from 0 callees j m is in
    let same : m ≡ leaf.at = omega (arith, leaf.is) in
    ap (callees_of callees) same ∙ leaf.none

-- and is a module
pub leaf-lt : (callees : List (List ℕ)) (j m : ℕ) → slice_get (leaves callees) j ≡ Some m → m < length callees
leaf-lt callees j m is =
    let leaf : IsLeafAt 0 m callees = leaf_from 0 callees j m is in
    omega (arith, leaf.is, leaf.within)

-- two numbers of one leaf are equal
leaf_number_from : (k : ℕ) (callees : List (List ℕ)) (i j m : ℕ)
    → slice_get (leaves_from k callees) i ≡ Some m → slice_get (leaves_from k callees) j ≡ Some m → i ≡ j
leaf_number_from k [] i j m first second = cc
leaf_number_from k ([] ∷ rest) zero zero m first second = refl
leaf_number_from k ([] ∷ rest) zero (suc j) m first second =
    let same : m ≡ k = cc in
    let leaf : IsLeafAt (k + 1) m rest = leaf_from (k + 1) rest j m second in
    absurd (omega (arith, leaf.is))
leaf_number_from k ([] ∷ rest) (suc i) zero m first second =
    let same : m ≡ k = cc in
    let leaf : IsLeafAt (k + 1) m rest = leaf_from (k + 1) rest i m first in
    absurd (omega (arith, leaf.is))
leaf_number_from k ([] ∷ rest) (suc i) (suc j) m first second = ap suc (leaf_number_from (k + 1) rest i j m first second)
leaf_number_from k ((x ∷ xs) ∷ rest) i j m first second = leaf_number_from (k + 1) rest i j m first second

pub leaf_number : (callees : List (List ℕ)) (i j m : ℕ) → slice_get (leaves callees) i ≡ Some m → slice_get (leaves callees) j ≡ Some m → i ≡ j
leaf_number callees i j m first second = leaf_number_from 0 callees i j m first second

-- each module without callees has a number
pub record HasNumber (k m : ℕ) (callees : List (List ℕ)) : Type 0 where
  pub number : ℕ
  pub is : slice_get (leaves_from k callees) number ≡ Some m

number_from : (k : ℕ) (callees : List (List ℕ)) (i : ℕ) → i < length callees → callees_of callees i ≡ [] → HasNumber k (k + i) callees
number_from k [] i within none = absurd (omega arith)
number_from k ([] ∷ rest) zero within none = record { number = 0; is = ap Some (omega arith) }
number_from k ([] ∷ rest) (suc i) within none =
    let found = number_from (k + 1) rest i (omega arith) none in
    record { number = suc found.number; is = found.is ∙ ap Some (omega arith) }
number_from k ((x ∷ xs) ∷ rest) zero within none = cc
number_from k ((x ∷ xs) ∷ rest) (suc i) within none =
    let found = number_from (k + 1) rest i (omega arith) none in
    record { number = found.number; is = found.is ∙ ap Some (omega arith) }

pub leaf_has_number : (callees : List (List ℕ)) (m : ℕ) → m < length callees → callees_of callees m ≡ [] → HasNumber 0 m callees
leaf_has_number callees m within none =
    let found = number_from 0 callees m within none in
    record { number = found.number; is = found.is ∙ ap Some (omega arith) }
