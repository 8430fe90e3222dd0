-- What two equal operations have in common, and that operations that have it in common are equal.
use Rattle.std.proofs.Common.{◌≡◌, Bool, true, ◌&&◌, nat_eq, List, [], ◌∷◌, refl, sym, ap, ap₂, ◌∙◌}
use Rattle.std.specs.Cmp.Lexicographic.{pointwise}
use Rattle.hw_model.specs.Equality.{TellsApart, both, both_of, number_self, number_from}
use Rattle.hw_model.specs.Design.{Ref, Op, result_type}
use Rattle.hw_model.specs.Design.Ref.{port, result, undefined}
use Rattle.hw_model.specs.SameKind.{same_kind}
use Rattle.hw_model.specs.KindsApart.{kinds_apart}
use Rattle.hw_model.specs.SameType.{same_type, types_apart}
use Rattle.ir_store.specs.Positions.{same_ref}
use Rattle.cse_pass.specs.EqualOps.{value_kind, result_types, are_equal}

-- ---- values and lists

ref_self : (r : Ref) → same_ref r r ≡ true
ref_self (port n) = number_self n
ref_self (result j k) = both (nat_eq j j) (nat_eq k k) (number_self j) (number_self k)
ref_self undefined = refl

ref_from : (r q : Ref) → same_ref r q ≡ true → r ≡ q
ref_from (port m) (port n) h = ap port (number_from m n h)
ref_from (result i m) (result j n) h =
    let p = both_of (nat_eq i j) (nat_eq m n) h in
    ap₂ result (number_from i j p.0) (number_from m n p.1)
ref_from undefined undefined h = refl
ref_from (port m) (result j n) h = cc
ref_from (port m) undefined h = cc
ref_from (result i m) (port n) h = cc
ref_from (result i m) undefined h = cc
ref_from undefined (port n) h = cc
ref_from undefined (result j n) h = cc

pub refs_apart : TellsApart same_ref
refs_apart = record { self = ref_self; from = ref_from }

module _ {A : Type 0} (same : A → A → Bool) (tells : TellsApart same) where
  list_self : (xs : List A) → pointwise same xs xs ≡ true
  list_self [] = refl
  list_self (x ∷ xs) = both (same x x) (pointwise same xs xs) (tells.self x) (list_self xs)

  list_from : (xs ys : List A) → pointwise same xs ys ≡ true → xs ≡ ys
  list_from [] [] h = refl
  list_from [] (y ∷ ys) h = cc
  list_from (x ∷ xs) [] h = cc
  list_from (x ∷ xs) (y ∷ ys) h =
      let p = both_of (same x y) (pointwise same xs ys) h in
      ap₂ (λ z zs. z ∷ zs) (tells.from x y p.0) (list_from xs ys p.1)

  pub lists_apart : TellsApart (pointwise same)
  lists_apart = record { self = list_self; from = list_from }

-- ---- operations

-- equal operations have the same operands, types, types of results, and kind but for how numbers are written
pub equal_ops_parts : (o p : Op) → are_equal o p ≡ true
    → (o.operands ≡ p.operands) × (o.types ≡ p.types) × (result_types o ≡ result_types p) × (value_kind (result_type o 0) o.kind ≡ value_kind (result_type p 0) p.kind)
equal_ops_parts o p h =
    let first = both_of (same_kind (value_kind (result_type o 0) o.kind) (value_kind (result_type p 0) p.kind))
    (pointwise same_ref o.operands p.operands && (pointwise same_type o.types p.types && pointwise same_type (result_types o) (result_types p))) h in
    let second = both_of (pointwise same_ref o.operands p.operands) (pointwise same_type o.types p.types && pointwise same_type (result_types o) (result_types p)) first.1 in
    let third = both_of (pointwise same_type o.types p.types) (pointwise same_type (result_types o) (result_types p)) second.1 in (
      (lists_apart same_ref refs_apart).from o.operands p.operands second.0,
      (lists_apart same_type types_apart).from o.types p.types third.0,
      (lists_apart same_type types_apart).from (result_types o) (result_types p) third.1,
      kinds_apart.from (value_kind (result_type o 0) o.kind) (value_kind (result_type p 0) p.kind) first.0,
    )

-- and those that have are equal
pub equal_ops_from_parts : (o p : Op) → o.operands ≡ p.operands → o.types ≡ p.types → result_types o ≡ result_types p
    → value_kind (result_type o 0) o.kind ≡ value_kind (result_type p 0) p.kind → are_equal o p ≡ true
equal_ops_from_parts o p operands types results kinds =
    both (same_kind (value_kind (result_type o 0) o.kind) (value_kind (result_type p 0) p.kind))
    (pointwise same_ref o.operands p.operands && (pointwise same_type o.types p.types && pointwise same_type (result_types o) (result_types p)))
    (sym (ap (same_kind (value_kind (result_type o 0) o.kind)) kinds) ∙ kinds_apart.self (value_kind (result_type o 0) o.kind))
    (both (pointwise same_ref o.operands p.operands) (pointwise same_type o.types p.types && pointwise same_type (result_types o) (result_types p))
    (sym (ap (pointwise same_ref o.operands) operands) ∙ (lists_apart same_ref refs_apart).self o.operands)
    (both (pointwise same_type o.types p.types) (pointwise same_type (result_types o) (result_types p))
    (sym (ap (pointwise same_type o.types) types) ∙ (lists_apart same_type types_apart).self o.types)
    (sym (ap (pointwise same_type (result_types o)) results) ∙ (lists_apart same_type types_apart).self (result_types o))))
