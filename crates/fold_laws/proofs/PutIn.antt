-- A body in which an operation is put in: its measure and its weight, and what stands where.
use Rattle.std.proofs.Common.{◌≡◌, ℕ, zero, suc, ◌+◌, ◌≤◌, List, [], ◌∷◌, length, map, Option, Some, None, slice_get, refl, sym, ap, subst, ◌∙◌, arith, option_map}
use Rattle.std.specs.List.{insert}
use Rattle.std.proofs.lemmas.List.{length-map}
use Rattle.std.proofs.lemmas.Option.{slice_get-map}
use Rattle.wiring.proofs.Edits.{slice_get-insert_at}
use Rattle.hw_model.specs.Types.{Name}
use Rattle.hw_model.specs.Design.{Ref, Op}
use Rattle.hw_model.specs.Design.Ref.{port, result, undefined}
use Rattle.hw_model.specs.Weight.{kind_weight, body_weight}
use Rattle.edit_laws.specs.Edit.{retarget}
use Rattle.edit_laws.specs.Laws.{up, up_ref, insert_op}
use Rattle.edit_laws.proofs.Positions.{get_put}
use Rattle.edit_laws.proofs.Weights.{weight-retarget}
use Rattle.fold_laws.specs.Constants.{first_result_word, constant_at}
use Rattle.fold_laws.specs.Fold.{op_measure, measure}
use Rattle.fold_laws.proofs.Measures.{measure-retarget}

-- ---- sums

measure-insert : (os : List Op) (i : ℕ) (o : Op) → i ≤ length os → measure (insert os i o) ≡ op_measure o + measure os
measure-insert os zero o within = refl
measure-insert [] (suc i) o within = absurd (omega arith)
measure-insert (y ∷ ys) (suc i) o within = let rest : measure (insert ys i o) ≡ op_measure o + measure ys = measure-insert ys i o (omega arith) in omega arith

module _ (inner : Name → ℕ) where
  weight-insert : (os : List Op) (i : ℕ) (o : Op) → i ≤ length os → body_weight inner (insert os i o) ≡ kind_weight inner o.kind o.types (length o.operands) + body_weight inner os
  weight-insert os zero o within = refl
  weight-insert [] (suc i) o within = absurd (omega arith)
  weight-insert (y ∷ ys) (suc i) o within =
      let rest : body_weight inner (insert ys i o) ≡ kind_weight inner o.kind o.types (length o.operands) + body_weight inner ys = weight-insert ys i o (omega arith) in
      omega arith

-- where the position of an operation is once another one is put in there
up_here : (i : ℕ) → up i i ≡ suc i
up_here zero = refl
up_here (suc i) = ap suc (up_here i)

-- ---- a body with an operation put in

module _ (os : List Op) (i : ℕ) (c : Op) (within : i ≤ length os) where
  mapped_within : i ≤ length (map (retarget (up_ref i)) os)
  mapped_within = subst (λ n. i ≤ n) (sym (length-map os (retarget (up_ref i)))) within

  old_op : (j : ℕ) → slice_get (insert_op i c os) (up i j) ≡ option_map (retarget (up_ref i)) (slice_get os j)
  old_op j = get_put (map (retarget (up_ref i)) os) i j (retarget (up_ref i) c) mapped_within ∙ slice_get-map (retarget (up_ref i)) os j

  pub new_op : slice_get (insert_op i c os) i ≡ Some (retarget (up_ref i) c)
  new_op = slice_get-insert_at (map (retarget (up_ref i)) os) i (retarget (up_ref i) c) mapped_within

  -- the operation that stood there stands after it
  pub next_op : (o : Op) → slice_get os i ≡ Some o → slice_get (insert_op i c os) (suc i) ≡ Some (retarget (up_ref i) o)
  next_op o there = ap (slice_get (insert_op i c os)) (sym (up_here i)) ∙ old_op i ∙ ap (option_map (retarget (up_ref i))) there

  -- constants stay
  pub old_constant : (r : Ref) → constant_at (insert_op i c os) (up_ref i r) ≡ constant_at os r
  old_constant (port j) = refl
  old_constant undefined = refl
  old_constant (result j (suc n)) = refl
  old_constant (result j zero) = ap first_result_word (old_op j) ∙ same_word (slice_get os j)
    where
      same_word : (x : Option Op) → first_result_word (option_map (retarget (up_ref i)) x) ≡ first_result_word x
      same_word None = refl
      same_word (Some o) = refl

  pub measure_put : measure (insert_op i c os) ≡ op_measure (retarget (up_ref i) c) + measure os
  measure_put =
      measure-insert (map (retarget (up_ref i)) os) i (retarget (up_ref i) c) mapped_within
      ∙ ap (λ n. op_measure (retarget (up_ref i) c) + n) (measure-retarget (up_ref i) os)

  pub weight_put : (inner : Name → ℕ) → body_weight inner (insert_op i c os) ≡ kind_weight inner c.kind c.types (length (map (up_ref i) c.operands)) + body_weight inner os
  weight_put inner =
      weight-insert inner (map (retarget (up_ref i)) os) i (retarget (up_ref i) c) mapped_within
      ∙ ap (λ n. kind_weight inner c.kind c.types (length (map (up_ref i) c.operands)) + n) (weight-retarget inner (up_ref i) os)
