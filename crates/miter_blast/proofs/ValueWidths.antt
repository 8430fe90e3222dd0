-- The types of values by positions.
use Rattle.std.proofs.Common.{◌≡◌, ℕ, zero, suc, ◌≤◌, List, [], ◌∷◌, length, slice_get, Some, None, refl, ap, arith, option_and_then}
use Rattle.hw_model.specs.Design.{Port, Op, result_type}
use Rattle.hw_model.specs.Design.Ref.{result}
use Rattle.hw_model.specs.Flat.{width_of}
use Rattle.hw_model.specs.Sound.{type_in}

pub typed_at : (ps : List Port) (os : List Op) (i k : ℕ) (o : Op) → slice_get os i ≡ Some o → type_in ps os (result i k) ≡ result_type o k
typed_at ps os i k o at = ap (λ x. option_and_then (λ (p : Op). result_type p k) x) at

none_past : (os : List Op) (i : ℕ) → length os ≤ i → slice_get os i ≡ None
none_past [] i past = refl
none_past (o ∷ os) zero past = absurd (omega arith)
none_past (o ∷ os) (suc i) past = none_past os i (omega arith)

pub untyped_past : (ps : List Port) (os : List Op) (i k : ℕ) → length os ≤ i → 0 ≡ width_of (type_in ps os (result i k))
untyped_past ps os i k past = ap (λ x. width_of (option_and_then (λ (p : Op). result_type p k) x)) (sym' (none_past os i past))
  where
    sym' : {A : Type 0} {x y : A} → x ≡ y → y ≡ x
    sym' h = cc
