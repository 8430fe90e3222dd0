-- Joined lists by positions: which of them a position is in, and what stands there and before it.
use Rattle.std.proofs.Common.{◌≡◌, ℕ, zero, suc, pred, ◌+◌, ◌<◌, Bool, true, false, cond, List, [], ◌∷◌, ◌++◌, length, take, slice_get, refl, ap, ◌∙◌, arith, zero-add}
use Rattle.hw_model.specs.Design.{Op, is_instance}
use Rattle.hw_model.specs.Flat.{instances, before_instance, if_zero}
use Rattle.hw_model.proofs.Sorts.{Sort, sort_of}
use Rattle.hw_model.proofs.Sorts.Sort.{a_register, an_instance, an_output, a_made}
use Rattle.inline_laws.specs.Inline.{Side, next_side, side}
use Rattle.inline_laws.specs.Inline.Side.{in_first, in_second}

-- what a position gives, by which list it is in
abbrev pub choose : {B : Type 0} → (ℕ → B) → (ℕ → B) → Side → B
choose f g (in_first j) = f j
choose f g (in_second j) = g j

choose_next : {B : Type 0} (f g : ℕ → B) (s : Side) → choose f g (next_side s) ≡ choose (λ j. f (suc j)) g s
choose_next f g (in_first j) = refl
choose_next f g (in_second j) = refl

choose_through : {A B : Type 0} (h : A → B) (f g : ℕ → A) (s : Side) → choose (λ j. h (f j)) (λ j. h (g j)) s ≡ h (choose f g s)
choose_through h f g (in_first j) = refl
choose_through h f g (in_second j) = refl

-- ---- sides

pub side_prefix : (n j : ℕ) → j < n → side n j ≡ in_first j
side_prefix zero j below = absurd (omega arith)
side_prefix (suc n) zero below = refl
side_prefix (suc n) (suc j) below = ap next_side (side_prefix n j (omega arith))

pub side_back : (n j : ℕ) → side n (n + j) ≡ in_second j
side_back zero j = ap in_second (zero-add j)
side_back (suc n) j = let e : suc n + j ≡ suc (n + j) = omega arith in ap (side (suc n)) e ∙ ap next_side (side_back n j)

pub from_prefix : (n j x : ℕ) → side n j ≡ in_first x → (x ≡ j) × (j < n)
from_prefix zero j x is = cc
from_prefix (suc n) zero x is = let e : zero ≡ x = cc in (omega arith, omega arith)
from_prefix (suc n) (suc j) x is = go (side n j) (λ y here. from_prefix n j y here) is
  where
    go : (s : Side) → ((y : ℕ) → s ≡ in_first y → (y ≡ j) × (j < n)) → next_side s ≡ in_first x → (x ≡ suc j) × (suc j < suc n)
    go (in_first y) rest e =
        let same : suc y ≡ x = cc in
        let first : y ≡ j = (rest y refl).0 in
        let second : j < n = (rest y refl).1 in
        (omega arith, omega arith)
    go (in_second y) rest e = cc

pub from_back : (n j x : ℕ) → side n j ≡ in_second x → j ≡ n + x
from_back zero j x is = let e : j ≡ x = cc in omega arith
from_back (suc n) zero x is = cc
from_back (suc n) (suc j) x is = go (side n j) (λ y here. from_back n j y here) is
  where
    go : (s : Side) → ((y : ℕ) → s ≡ in_second y → j ≡ n + y) → next_side s ≡ in_second x → suc j ≡ suc n + x
    go (in_first y) rest e = cc
    go (in_second y) rest e =
        let same : y ≡ x = cc in
        let above : j ≡ n + y = rest y refl in
        omega arith

-- ---- lists

module _ {A : Type 0} where
  pub get_side : (xs ys : List A) (j : ℕ) → slice_get (xs ++ ys) j ≡ choose (λ x. slice_get xs x) (λ y. slice_get ys y) (side (length xs) j)
  get_side [] ys j = refl
  get_side (x ∷ xs) ys zero = refl
  get_side (x ∷ xs) ys (suc j) = get_side xs ys j ∙ go (side (length xs) j)
    where
      go : (s : Side) → choose (λ y. slice_get xs y) (λ y. slice_get ys y) s ≡ choose (λ y. slice_get (x ∷ xs) y) (λ y. slice_get ys y) (next_side s)
      go (in_first y) = refl
      go (in_second y) = refl

  pub take_side : (xs ys : List A) (j : ℕ) → take j (xs ++ ys) ≡ choose (λ x. take x xs) (λ y. xs ++ take y ys) (side (length xs) j)
  take_side [] ys j = refl
  take_side (x ∷ xs) ys zero = refl
  take_side (x ∷ xs) ys (suc j) = ap (λ zs. x ∷ zs) (take_side xs ys j) ∙ go (side (length xs) j)
    where
      go : (s : Side) → x ∷ choose (λ y. take y xs) (λ y. xs ++ take y ys) s ≡ choose (λ y. take y (x ∷ xs)) (λ y. (x ∷ xs) ++ take y ys) (next_side s)
      go (in_first y) = refl
      go (in_second y) = refl

-- ---- instances

pub instances-append : (xs ys : List Op) → instances (xs ++ ys) ≡ instances xs ++ instances ys
instances-append [] ys = refl
instances-append (o ∷ xs) ys = go (sort_of o.kind) (instances-append xs ys)
  where
    go : Sort o.kind → instances (xs ++ ys) ≡ instances xs ++ instances ys → instances (o ∷ xs ++ ys) ≡ instances (o ∷ xs) ++ instances ys
    go (a_register f r i u) rest = simp i rest
    go (an_instance x r i u) rest = simp i (ap (λ zs. o ∷ zs) rest)
    go (an_output r i u) rest = simp i rest
    go (a_made r i u) rest = simp i rest

-- the operations before an instance
pub before_side : (xs ys : List Op) (u : ℕ)
    → before_instance u (xs ++ ys) ≡ choose (λ v. before_instance v xs) (λ v. xs ++ before_instance v ys) (side (length (instances xs)) u)
before_side [] ys u = refl
before_side (o ∷ xs) ys u = go (is_instance o) u (λ v. before_side xs ys v)
  where
    more : (s : Side) → o ∷ choose (λ v. before_instance v xs) (λ v. xs ++ before_instance v ys) s
        ≡ choose (λ v. o ∷ before_instance v xs) (λ v. o ∷ xs ++ before_instance v ys) s
    more (in_first v) = refl
    more (in_second v) = refl

    one_more : (s : Side) → o ∷ choose (λ v. before_instance v xs) (λ v. xs ++ before_instance v ys) s
        ≡ choose (λ v. if_zero v [] (o ∷ before_instance (pred v) xs)) (λ v. o ∷ xs ++ before_instance v ys) (next_side s)
    one_more (in_first v) = refl
    one_more (in_second v) = refl

    go : (b : Bool) (u : ℕ) → ((v : ℕ) → before_instance v (xs ++ ys) ≡ choose (λ w. before_instance w xs) (λ w. xs ++ before_instance w ys) (side (length (instances xs)) v))
        → cond b (if_zero u [] (o ∷ before_instance (pred u) (xs ++ ys))) (o ∷ before_instance u (xs ++ ys))
        ≡ choose (λ v. cond b (if_zero v [] (o ∷ before_instance (pred v) xs)) (o ∷ before_instance v xs)) (λ v. o ∷ xs ++ before_instance v ys)
        (side (length (cond b (o ∷ instances xs) (instances xs))) u)
    go true zero rest = refl
    go true (suc u) rest = ap (λ zs. o ∷ zs) (rest u) ∙ one_more (side (length (instances xs)) u)
    go false u rest = ap (λ zs. o ∷ zs) (rest u) ∙ more (side (length (instances xs)) u)
