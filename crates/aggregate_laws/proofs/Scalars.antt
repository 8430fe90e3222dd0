-- Leaves of types have no parts, and so no leaves but themselves.
use Rattle.std.proofs.Common.{◌≡◌, ◌⊎◌, ℕ, zero, suc, true, List, [], ◌∷◌, ◌++◌, flat_map, refl, ap, ap₂, inl, inr}
use Rattle.wiring.specs.Wiring.{In}
use Rattle.wiring.proofs.Members.{In-append_cases}
use Rattle.hw_model.specs.Types.{HwType, FieldTypes, leaves, leaves_of_fields, list_copies}
use Rattle.hw_model.specs.Types.HwType.{int, clock, array, struct}
use Rattle.hw_model.specs.Types.FieldTypes.{no_fields, field}
use Rattle.aggregate_laws.specs.Aggregates.{is_scalar}

pub from_copies : (n : ℕ) (xs : List HwType) (u : HwType) → In u (list_copies n xs) → In u xs
from_copies zero xs u here = absurd here
from_copies (suc n) xs u here = go (In-append_cases u xs (list_copies n xs) here) (from_copies n xs u)
  where
    go : In u xs ⊎ In u (list_copies n xs) → (In u (list_copies n xs) → In u xs) → In u xs
    go (inl there) rest = there
    go (inr there) rest = rest there

mutual
  -- they have no parts
  pub leaf_scalar : (t u : HwType) → In u (leaves t) → is_scalar u ≡ true
  leaf_scalar (int w) u (inl same) = ap is_scalar same
  leaf_scalar (int w) u (inr never) = absurd never
  leaf_scalar clock u (inl same) = ap is_scalar same
  leaf_scalar clock u (inr never) = absurd never
  leaf_scalar (array n t) u here = leaf_scalar t u (from_copies n (leaves t) u here)
  leaf_scalar (struct fs) u here = field_scalar fs u here

  field_scalar : (fs : FieldTypes) (u : HwType) → In u (leaves_of_fields fs) → is_scalar u ≡ true
  field_scalar no_fields u here = absurd here
  field_scalar (field name t fs) u here = go (In-append_cases u (leaves t) (leaves_of_fields fs) here) (leaf_scalar t u) (field_scalar fs u)
    where
      go : In u (leaves t) ⊎ In u (leaves_of_fields fs) → (In u (leaves t) → is_scalar u ≡ true) → (In u (leaves_of_fields fs) → is_scalar u ≡ true) → is_scalar u ≡ true
      go (inl there) first rest = first there
      go (inr there) first rest = rest there

pub scalar_leaves : (t : HwType) → is_scalar t ≡ true → leaves t ≡ t ∷ []
scalar_leaves (int w) is = refl
scalar_leaves clock is = refl
scalar_leaves (array n t) is = cc
scalar_leaves (struct fs) is = cc

pub all_scalar_leaves : (us : List HwType) → ((u : HwType) → In u us → is_scalar u ≡ true) → flat_map leaves us ≡ us
all_scalar_leaves [] all = refl
all_scalar_leaves (u ∷ us) all = ap₂ (λ xs ys. xs ++ ys) (scalar_leaves u (all u (inl refl))) (all_scalar_leaves us (λ v here. all v (inr here)))

-- the leaves of leaves are themselves
pub leaves_twice : (t : HwType) → flat_map leaves (leaves t) ≡ leaves t
leaves_twice t = all_scalar_leaves (leaves t) (leaf_scalar t)
