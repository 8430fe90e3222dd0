-- The measure of a body after an operation is taken out or changed in place.
use Rattle.std.proofs.Common.{◌≡◌, ℕ, zero, suc, ◌+◌, ◌<◌, ◌≤◌, List, [], ◌∷◌, length, map, set, remove, slice_get, Some, refl, ap, arith}
use Rattle.std.proofs.lemmas.List.{length-map}
use Rattle.hw_model.specs.Kinds.{Kind}
use Rattle.hw_model.specs.Kinds.Kind.{constant}
use Rattle.hw_model.specs.Design.{Ref, Op}
use Rattle.hw_model.specs.Design.Ref.{undefined}
use Rattle.edit_laws.specs.Edit.{retarget}
use Rattle.edit_laws.specs.Laws.{without, erase_op}
use Rattle.fold_laws.specs.Fold.{kind_measure, op_measure, measure}

kind_counts : (kind : Kind) (n : ℕ) → 1 ≤ kind_measure kind n
kind_counts (constant z) n = omega arith
kind_counts _ n = omega arith

pub measure-retarget : (f : Ref → Ref) (os : List Op) → measure (map (retarget f) os) ≡ measure os
measure-retarget f [] = refl
measure-retarget f (o ∷ os) =
    let first : kind_measure o.kind (length (map f o.operands)) ≡ kind_measure o.kind (length o.operands) = ap (kind_measure o.kind) (length-map o.operands f) in
    let rest : measure (map (retarget f) os) ≡ measure os = measure-retarget f os in
    omega arith

pub measure-remove : (os : List Op) (i : ℕ) (o : Op) → slice_get os i ≡ Some o → op_measure o + measure (remove os i) ≡ measure os
measure-remove [] i o is = cc
measure-remove (y ∷ ys) zero o is = let same : o ≡ y = cc in ap (λ z. op_measure z + measure ys) same
measure-remove (y ∷ ys) (suc i) o is = let rest : op_measure o + measure (remove ys i) ≡ measure ys = measure-remove ys i o is in omega arith

pub measure-set : (os : List Op) (i : ℕ) (o o' : Op) → slice_get os i ≡ Some o → op_measure o + measure (set os i o') ≡ op_measure o' + measure os
measure-set [] i o o' is = cc
measure-set (y ∷ ys) zero o o' is =
    let same : o ≡ y = cc in
    let equal : op_measure o ≡ op_measure y = ap op_measure same in
    omega arith
measure-set (y ∷ ys) (suc i) o o' is = let rest : op_measure o + measure (set ys i o') ≡ op_measure o' + measure ys = measure-set ys i o o' is in omega arith

-- a body without an operation is smaller
pub measure_taken_out : (os : List Op) (i : ℕ) (o : Op) (x : Ref) → slice_get os i ≡ Some o → measure (erase_op i x os) < measure os
measure_taken_out os i o x is =
    let same : measure (erase_op i x os) ≡ measure (remove os i) = measure-retarget (without i (without i undefined x)) (remove os i) in
    let sum : op_measure o + measure (remove os i) ≡ measure os = measure-remove os i o is in
    let counts : 1 ≤ op_measure o = kind_counts o.kind (length o.operands) in
    omega arith

-- a body with a smaller operation in the place of one is smaller
pub measure_changed : (os : List Op) (i : ℕ) (o o' : Op) → slice_get os i ≡ Some o → op_measure o' < op_measure o → measure (set os i o') < measure os
measure_changed os i o o' is less =
    let sum : op_measure o + measure (set os i o') ≡ op_measure o' + measure os = measure-set os i o o' is in
    omega arith
