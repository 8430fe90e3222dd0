-- Constants of aggregate types, each number read by its type.
use Rattle.std.proofs.Common.{◌≡◌, suc, ℤ, nat_eq, Bool, true, false, ◌&&◌, List, [], ◌∷◌, length, map, refl, sym, ap, ◌∙◌}
use Rattle.bits_core.specs.Word.{number, bits_of_ℤ}
use Rattle.hw_model.specs.Types.{HwType, width}
use Rattle.hw_model.specs.Kinds.{Literal}
use Rattle.hw_model.specs.KindViews.{literals_of}
use Rattle.hw_model.specs.SameKind.{same_integer, same_literal, same_literals}
use Rattle.hw_model.specs.SameType.{same_type, type_from}
use Rattle.cse_pass.specs.EqualOps.{value_number, value_literal, value_literals}

and_false : (p r : Bool) → false ≡ r → false ≡ p && r
and_false true r h = h
and_false false r h = refl

-- those with different numbers of parts are different
pub differing : {A : Type 0} (view : A → Literal) (xs ys : List A) → (length xs ≡ length ys → ⊥)
    → false ≡ same_literals (value_literals (literals_of (map view xs))) (value_literals (literals_of (map view ys)))
differing view [] [] h = absurd (h refl)
differing view [] (y ∷ ys) h = refl
differing view (x ∷ xs) [] h = refl
differing view (x ∷ xs) (y ∷ ys) h =
    and_false (same_literal (value_literal (view x)) (value_literal (view y))) (same_literals (value_literals (literals_of (map view xs))) (value_literals (literals_of (map view ys))))
    (differing view xs ys (λ e. h (ap suc e)))

-- numbers of two types that are one are told by the bits of the first
pub leaf_same : (y z : ℤ) (t u : HwType) (r : Bool) → true ≡ same_type t u → r ≡ nat_eq (number (bits_of_ℤ (width t) y)) (number (bits_of_ℤ (width t) z))
    → r ≡ same_integer (value_number t y) (value_number u z) && same_type t u
leaf_same y z t u r types is =
    is ∙ ap (λ v. nat_eq (number (bits_of_ℤ (width t) y)) (number (bits_of_ℤ (width v) z))) (type_from t u (sym types))
    ∙ and_is (nat_eq (number (bits_of_ℤ (width t) y)) (number (bits_of_ℤ (width u) z))) (same_type t u) types
  where
    and_is : (p q : Bool) → true ≡ q → p ≡ p && q
    and_is true true e = refl
    and_is false q e = refl
    and_is true false e = e

-- those of two types that are not one are two
pub leaf_other : (y z : ℤ) (t u : HwType) → false ≡ same_type t u → false ≡ same_integer (value_number t y) (value_number u z) && same_type t u
leaf_other y z t u types = and_false (same_integer (value_number t y) (value_number u z)) (same_type t u) types
