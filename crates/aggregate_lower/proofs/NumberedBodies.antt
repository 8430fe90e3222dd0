-- Bodies in which the ids of operations are their positions.
use Rattle.std.proofs.Common.{◌≡◌, ℕ, suc, ◌<◌, List, [], ◌∷◌, ◌++◌, length, map, refl, sym, ap, ap₂, subst, ◌∙◌, arith, append_assoc, length-append, zero-add, inl, inr, Some}
use Rattle.std.proofs.lemmas.List.{length-map}
use Rattle.wiring.specs.Wiring.{In}
use Rattle.wiring.proofs.Members.{In-map, map_same}
use Rattle.hw_model.specs.Design.{Ref, Op}
use Rattle.hw_model.specs.Design.Ref.{result}
use Rattle.ir_store.specs.declared.operation.OpId.{OpId}
use Rattle.ir_store.specs.declared.operation.NewOp.{NewOp}
use Rattle.ir_store.specs.declared.operation.Value.{Value}
use Rattle.ir_store.specs.declared.operation.Value.TheVariants.{Port, Result, Undefined}
use Rattle.ir_store.specs.Bodies.{op_id}
use Rattle.ir_store.specs.BodyOps.{BodyOp, as_new, ids_in}
use Rattle.ir_store.specs.Live.{AreDistinct}
use Rattle.ir_store.specs.Numbered.{position_of, ref_by, op_by, ops_by_position}
use Rattle.body_index.proofs.PositionTables.{position_found}
use Rattle.aggregate_laws.specs.Leaves.{in_row}
use Rattle.aggregate_laws.proofs.Lists.{in_rule_at}
use Rattle.lowering_rules.specs.Reading.{new_ref, new_seen}
use Rattle.lowering_rules.specs.Made.{made_in}
use Rattle.aggregate_lower.specs.Targets.{IsNamed}
use Rattle.aggregate_lower.specs.MadeBodies.{numbered_from}

-- the numbers from one on
abbrev pub numbers : ℕ → ℕ → List ℕ
numbers s n = in_row (λ i. i) s n

-- ---- one more operation at the end

pub numbered_more : (done new : List BodyOp) (id : OpId) (o : NewOp) (rest rest' : List NewOp) → rest ≡ o ∷ rest' → new ≡ done ++ as_new id o ∷ [] → id.index ≡ length (ids_in done)
    → new ++ numbered_from (length (ids_in new)) rest' ≡ done ++ numbered_from (length (ids_in done)) rest
numbered_more done new id o rest rest' rest_is new_is id_is =
    ap₂ (λ b n. b ++ numbered_from n rest') new_is count
    ∙ append_assoc done (as_new id o ∷ []) (numbered_from (suc (length (ids_in done))) rest')
    ∙ ap (λ (n : ℕ). done ++ (as_new (op_id n) o ∷ numbered_from (suc (length (ids_in done))) rest')) id_is
    ∙ ap (λ r. done ++ numbered_from (length (ids_in done)) r) (sym rest_is)
  where
    count : length (ids_in new) ≡ suc (length (ids_in done))
    count =
        let a = length-map new (λ (p : BodyOp). p.id) in
        let b = length-map done (λ (p : BodyOp). p.id) in
        let c = ap length new_is ∙ length-append done (as_new id o ∷ []) in
        omega (arith, a, b, c)

-- ---- ids

pub ids_numbered : (s : ℕ) (os : List NewOp) → ids_in (numbered_from s os) ≡ numbers s (length os)
ids_numbered s [] = refl
ids_numbered s (o ∷ os) = ap (λ ids. s ∷ ids) (ids_numbered (suc s) os)

-- ---- by positions

module _ (n : ℕ) (once : AreDistinct (numbers 0 n)) where
  number_position : (j : ℕ) → j < n → position_of (numbers 0 n) j ≡ j
  number_position j below = position_found (numbers 0 n) j j (once j) (in_rule_at (λ i. i) 0 n j below ∙ ap Some (zero-add j))

  value_seen : (v : Value) → IsNamed n (new_ref v) → ref_by (position_of (numbers 0 n)) v ≡ new_ref v
  value_seen (Port p) below = refl
  value_seen (Result id k) below = ap (λ j. result j k) (number_position id.index (below id.index k refl))
  value_seen Undefined below = refl

  -- operations whose operands are results of these
  AreBelow : List NewOp → Type 0
  AreBelow os = (o : NewOp) (v : Value) → In o os → In v o.operands.items → IsNamed n (new_ref v)

  all_seen : (s : ℕ) (os : List NewOp) → AreBelow os → map (op_by (position_of (numbers 0 n))) (numbered_from s os) ≡ map new_seen os
  unfolding AreBelow
  all_seen s [] below = refl
  all_seen s (o ∷ os) below =
      ap₂ (λ (rs : List Ref) xs. record (new_seen o) { operands = rs } ∷ xs)
      (map_same (ref_by (position_of (numbers 0 n))) new_ref o.operands.items (λ v here. value_seen v (below o v (inl refl) here)))
      (all_seen (suc s) os (λ p v there. below p v (inr there)))

module _ (os : List NewOp) (once : AreDistinct (ids_in (numbered_from 0 os))) (below : (x : Op) (r : Ref) → In x (made_in os) → In r x.operands → IsNamed (length os) r) where
  apart : AreDistinct (numbers 0 (length os))
  apart = subst AreDistinct (ids_numbered 0 os) once

  are_below : AreBelow (length os) apart os
  unfolding AreBelow made_in
  are_below o v there here = below (new_seen o) (new_ref v) (In-map new_seen o os there) (In-map new_ref v o.operands.items here)

  -- its operations by positions are those that were made
  pub numbered_seen : ops_by_position (numbered_from 0 os) ≡ made_in os
  unfolding made_in
  numbered_seen =
      ap (λ ids. map (op_by (position_of ids)) (numbered_from 0 os)) (ids_numbered 0 os)
      ∙ all_seen (length os) apart 0 os are_below
