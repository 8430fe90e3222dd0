-- Weights after an edit of a module.
use Rattle.std.proofs.Common.{◌≡◌, ℕ, zero, suc, ◌+◌, ◌≤◌, List, [], ◌∷◌, length, map, set, remove, slice_get, Some, refl, ap, arith, length-set}
use Rattle.std.proofs.lemmas.List.{length-map}
use Rattle.hw_model.specs.Types.{Name}
use Rattle.hw_model.specs.Design.{Ref, Op, Module, Design}
use Rattle.hw_model.specs.Design.Ref.{undefined}
use Rattle.hw_model.specs.Weight.{kind_weight, body_weight, weight_of, weight}
use Rattle.hw_model.proofs.Weights.{weight_not_raised}
use Rattle.edit_laws.specs.Edit.{retarget}
use Rattle.edit_laws.specs.Laws.{without, erase_op, with_body}
use Rattle.edit_laws.proofs.Follows.{set_each}

-- a module whose body is not heavier makes no module heavier
pub weight_with_body : (d : Design) (m : ℕ) (md : Module) (os : List Op) → slice_get d m ≡ Some md → ((inner : Name → ℕ) → body_weight inner os ≤ body_weight inner md.body)
    → (s : Name) → weight (with_body d m md os) s ≤ weight d s
weight_with_body d m md os is lighter =
    weight_not_raised d (with_body d m md os) (length-set d m (record md { body = os }))
    (λ s inner. set_each (λ o o'. weight_of inner o' ≤ weight_of inner o) (λ o. omega arith) d m md (record md { body = os }) is refl (changed inner) s)
  where
    changed : (inner : Name → ℕ) → weight_of inner (Some (record md { body = os })) ≤ weight_of inner (Some md)
    changed inner = let body : body_weight inner os ≤ body_weight inner md.body = lighter inner in omega arith

module _ (inner : Name → ℕ) where
  abbrev pub op_weight : Op → ℕ
  op_weight o = kind_weight inner o.kind o.types (length o.operands)

  pub weight-retarget : (f : Ref → Ref) (os : List Op) → body_weight inner (map (retarget f) os) ≡ body_weight inner os
  weight-retarget f [] = refl
  weight-retarget f (o ∷ os) =
      let first : kind_weight inner o.kind o.types (length (map f o.operands)) ≡ kind_weight inner o.kind o.types (length o.operands) =
      ap (kind_weight inner o.kind o.types) (length-map o.operands f) in
      let rest : body_weight inner (map (retarget f) os) ≡ body_weight inner os = weight-retarget f os in
      omega arith

  weight-remove : (os : List Op) (i : ℕ) (o : Op) → slice_get os i ≡ Some o → op_weight o + body_weight inner (remove os i) ≡ body_weight inner os
  weight-remove [] i o is = cc
  weight-remove (y ∷ ys) zero o is = let same : o ≡ y = cc in ap (λ z. op_weight z + body_weight inner ys) same
  weight-remove (y ∷ ys) (suc i) o is = let rest : op_weight o + body_weight inner (remove ys i) ≡ body_weight inner ys = weight-remove ys i o is in omega arith

  pub weight-set : (os : List Op) (i : ℕ) (o o' : Op) → slice_get os i ≡ Some o → op_weight o + body_weight inner (set os i o') ≡ op_weight o' + body_weight inner os
  weight-set [] i o o' is = cc
  weight-set (y ∷ ys) zero o o' is =
      let same : o ≡ y = cc in
      let equal : op_weight o ≡ op_weight y = ap op_weight same in
      omega arith
  weight-set (y ∷ ys) (suc i) o o' is = let rest : op_weight o + body_weight inner (set ys i o') ≡ op_weight o' + body_weight inner ys = weight-set ys i o o' is in omega arith

-- a body is lighter by the weight of what is taken out
pub weight_taken_out : (inner : Name → ℕ) (os : List Op) (i : ℕ) (o : Op) (x : Ref) → slice_get os i ≡ Some o
    → kind_weight inner o.kind o.types (length o.operands) + body_weight inner (erase_op i x os) ≡ body_weight inner os
weight_taken_out inner os i o x is =
    let same : body_weight inner (erase_op i x os) ≡ body_weight inner (remove os i) = weight-retarget inner (without i (without i undefined x)) (remove os i) in
    let sum : kind_weight inner o.kind o.types (length o.operands) + body_weight inner (remove os i) ≡ body_weight inner os = weight-remove inner os i o is in
    omega arith

-- taking an operation out makes no module heavier
pub out_is_lighter : (d : Design) (m : ℕ) (md : Module) (i : ℕ) (o : Op) (x : Ref) → slice_get d m ≡ Some md → slice_get md.body i ≡ Some o
    → (s : Name) → weight (with_body d m md (erase_op i x md.body)) s ≤ weight d s
out_is_lighter d m md i o x at_m there =
    weight_with_body d m md (erase_op i x md.body) at_m
    (λ inner. let sum : kind_weight inner o.kind o.types (length o.operands) + body_weight inner (erase_op i x md.body) ≡ body_weight inner md.body = weight_taken_out inner md.body i o x there in omega arith)

-- a change in place makes no module heavier where the new operation is not heavier
pub position_is_lighter : (d : Design) (m : ℕ) (md : Module) (i : ℕ) (o new : Op) → slice_get d m ≡ Some md → slice_get md.body i ≡ Some o
    → ((inner : Name → ℕ) → kind_weight inner new.kind new.types (length new.operands) ≤ kind_weight inner o.kind o.types (length o.operands))
    → (s : Name) → weight (with_body d m md (set md.body i new)) s ≤ weight d s
position_is_lighter d m md i o new at_m there lighter =
    weight_with_body d m md (set md.body i new) at_m
    (λ inner.
    let sum : kind_weight inner o.kind o.types (length o.operands) + body_weight inner (set md.body i new)
    ≡ kind_weight inner new.kind new.types (length new.operands) + body_weight inner md.body = weight-set inner md.body i o new there in
    let less : kind_weight inner new.kind new.types (length new.operands) ≤ kind_weight inner o.kind o.types (length o.operands) = lighter inner in
    omega arith)
