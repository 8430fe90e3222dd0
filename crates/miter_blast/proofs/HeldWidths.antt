-- The widths of registers, operation by operation.
use Rattle.std.proofs.Common.{◌≡◌, ℕ, zero, suc, ◌+◌, Bool, true, false, cond, List, [], ◌∷◌, ◌++◌, map, take, slice_get, Some, refl, sym, ap, ◌∙◌, arith}
use Rattle.std.specs.List.{filter}
use Rattle.hw_model.specs.Design.{Op, is_register}
use Rattle.hw_model.specs.Flat.{held_width}
use Rattle.miter_blast.specs.Leaves.{held_widths}

-- those of one operation
abbrev own_widths : Op → List ℕ
own_widths o = cond (is_register o) (held_width o ∷ []) []

first_widths : (o : Op) (os : List Op) → held_widths (o ∷ os) ≡ own_widths o ++ held_widths os
first_widths o os = go (is_register o)
  where
    go : (b : Bool) → map held_width (cond b (o ∷ filter is_register os) (filter is_register os)) ≡ cond b (held_width o ∷ []) [] ++ held_widths os
    go true = refl
    go false = refl

widths_more : (os : List Op) (i : ℕ) (o : Op) → slice_get os i ≡ Some o → held_widths (take (i + 1) os) ≡ held_widths (take i os) ++ own_widths o
widths_more [] i o at = cc
widths_more (y ∷ os) zero o at =
    let same : y ≡ o = cc in
    first_widths y [] ∙ ends y ∙ ap own_widths same
  where
    ends : (y : Op) → own_widths y ++ [] ≡ own_widths y
    ends y = ended (is_register y)
      where
        ended : (b : Bool) → cond b (held_width y ∷ []) [] ++ [] ≡ cond b (held_width y ∷ []) []
        ended true = refl
        ended false = refl
widths_more (y ∷ os) (suc i) o at =
    let next : suc i + 1 ≡ suc (i + 1) = omega arith in
    ap (λ n. held_widths (take n (y ∷ os))) next
    ∙ first_widths y (take (i + 1) os) ∙ ap (λ ws. own_widths y ++ ws) (widths_more os i o at)
    ∙ sym (ap (λ ws. ws ++ own_widths o) (first_widths y (take i os)) ∙ append_assoc' (own_widths y) (held_widths (take i os)) (own_widths o))
  where
    append_assoc' : (xs ys zs : List ℕ) → (xs ++ ys) ++ zs ≡ xs ++ (ys ++ zs)
    append_assoc' [] ys zs = refl
    append_assoc' (x ∷ xs) ys zs = ap (λ ws. x ∷ ws) (append_assoc' xs ys zs)

-- a register, and another operation
pub register_more : (os : List Op) (i : ℕ) (o : Op) → slice_get os i ≡ Some o → is_register o ≡ true → held_widths (take (i + 1) os) ≡ held_widths (take i os) ++ held_width o ∷ []
register_more os i o at is = widths_more os i o at ∙ ap (λ b. held_widths (take i os) ++ cond b (held_width o ∷ []) []) is

pub other_more : (os : List Op) (i : ℕ) (o : Op) → slice_get os i ≡ Some o → is_register o ≡ false → held_widths (take (i + 1) os) ≡ held_widths (take i os)
other_more os i o at is = widths_more os i o at ∙ ap (λ b. held_widths (take i os) ++ cond b (held_width o ∷ []) []) is ∙ ended (held_widths (take i os))
  where
    ended : (xs : List ℕ) → xs ++ [] ≡ xs
    ended [] = refl
    ended (x ∷ xs) = ap (λ ws. x ∷ ws) (ended xs)
