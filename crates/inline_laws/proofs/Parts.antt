-- Four joined lists by positions.
use Rattle.std.proofs.Common.{◌≡◌, ℕ, List, ◌++◌, length, take, slice_get, ap, ◌∙◌}
use Rattle.hw_model.specs.Design.{Op}
use Rattle.hw_model.specs.Flat.{instances, before_instance}
use Rattle.inline_laws.specs.Inline.{side}
use Rattle.inline_laws.specs.Inline.Side.{in_first, in_second}
use Rattle.inline_laws.proofs.Sides.{choose, get_side, take_side, before_side}

module _ {A : Type 0} (xs ys : List A) where
  pub get_prefix : (j x : ℕ) → side (length xs) j ≡ in_first x → slice_get (xs ++ ys) j ≡ slice_get xs x
  get_prefix j x is = get_side xs ys j ∙ ap (choose (λ z. slice_get xs z) (λ z. slice_get ys z)) is

  pub get_back : (j y : ℕ) → side (length xs) j ≡ in_second y → slice_get (xs ++ ys) j ≡ slice_get ys y
  get_back j y is = get_side xs ys j ∙ ap (choose (λ z. slice_get xs z) (λ z. slice_get ys z)) is

  pub take_prefix : (j x : ℕ) → side (length xs) j ≡ in_first x → take j (xs ++ ys) ≡ take x xs
  take_prefix j x is = take_side xs ys j ∙ ap (choose (λ z. take z xs) (λ z. xs ++ take z ys)) is

  pub take_back : (j y : ℕ) → side (length xs) j ≡ in_second y → take j (xs ++ ys) ≡ xs ++ take y ys
  take_back j y is = take_side xs ys j ∙ ap (choose (λ z. take z xs) (λ z. xs ++ take z ys)) is

module _ (xs ys : List Op) where
  pub before_prefix : (u v : ℕ) → side (length (instances xs)) u ≡ in_first v → before_instance u (xs ++ ys) ≡ before_instance v xs
  before_prefix u v is = before_side xs ys u ∙ ap (choose (λ z. before_instance z xs) (λ z. xs ++ before_instance z ys)) is

  pub before_back : (u v : ℕ) → side (length (instances xs)) u ≡ in_second v → before_instance u (xs ++ ys) ≡ xs ++ before_instance v ys
  before_back u v is = before_side xs ys u ∙ ap (choose (λ z. before_instance z xs) (λ z. xs ++ before_instance z ys)) is
