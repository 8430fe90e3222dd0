-- Tests that are joined, and tests of some element of a list.
use Rattle.std.proofs.Common.{◌≡◌, ◌⊎◌, Bool, true, false, ◌&&◌, ◌||◌, List, [], ◌∷◌, refl, sym, ap, ◌∙◌, inl, inr}
use Rattle.std.specs.List.{list_any}
use Rattle.wiring.specs.Wiring.{In}
use Rattle.std.proofs.lemmas.Bool.{or_left, or_right, or_cases}

pub and_left : (a b : Bool) → (a && b) ≡ true → a ≡ true
and_left true b h = refl
and_left false b h = h

pub and_right : (a b : Bool) → (a && b) ≡ true → b ≡ true
and_right true b h = h
and_right false b h = cc

-- two tests that hold of the same
pub same_tests : (a b : Bool) → (a ≡ true → b ≡ true) → (b ≡ true → a ≡ true) → a ≡ b
same_tests true b to from = sym (to refl)
same_tests false true to from = from refl
same_tests false false to from = refl

module _ {A : Type 0} where
  pub any_some : (f : A → Bool) (xs : List A) → list_any f xs ≡ true → (x : A) × In x xs × (f x ≡ true)
  any_some f [] h = cc
  any_some f (x ∷ xs) h = go (or_cases (f x) (list_any f xs) h) (any_some f xs)
    where
      go : (f x ≡ true) ⊎ (list_any f xs ≡ true) → (list_any f xs ≡ true → (y : A) × In y xs × (f y ≡ true)) → (y : A) × In y (x ∷ xs) × (f y ≡ true)
      go (inl is) rest = (x, inl refl, is)
      go (inr is) rest = let found = rest is in (found.0, inr found.1, found.2)

  pub any_member : (f : A → Bool) (xs : List A) (x : A) → In x xs → f x ≡ true → list_any f xs ≡ true
  any_member f [] x here is = absurd here
  any_member f (y ∷ ys) x (inl same) is = or_left (f y) (list_any f ys) (ap f (sym same) ∙ is)
  any_member f (y ∷ ys) x (inr here) is = or_right (f y) (list_any f ys) (any_member f ys x here is)

  pub any_same : (f g : A → Bool) (xs : List A) → ((x : A) → f x ≡ g x) → list_any f xs ≡ list_any g xs
  any_same f g [] same = refl
  any_same f g (x ∷ xs) same = ap (λ b. b || list_any f xs) (same x) ∙ ap (λ b. g x || b) (any_same f g xs same)
