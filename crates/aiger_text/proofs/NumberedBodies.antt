-- Bodies in which ids are positions: how they grow, and their operations by positions.
use Rattle.std.proofs.Common.{◌≡◌, ℕ, zero, suc, ◌+◌, ◌<◌, Bool, true, false, cond, List, [], ◌∷◌, ◌++◌, map, length, refl, sym, ap, ap₂, subst, ◌∙◌, inl, inr, arith}
use Rattle.std.specs.Prelude.{nat_eq}
use Rattle.std.proofs.lemmas.List.{map-append, length-map}
use Rattle.std.proofs.lemmas.Bool.{eqb-true, eqb-false}
use Rattle.wiring.specs.Wiring.{In}
use Rattle.wiring.proofs.Members.{map_same, In-map}
use Rattle.hw_model.specs.Design.{Op, Ref}
use Rattle.hw_model.specs.Design.Ref.{result}
use Rattle.ir_store.specs.declared.operation.Value.{Value}
use Rattle.ir_store.specs.declared.operation.Value.TheVariants.{Port, Result, Undefined}
use Rattle.ir_store.specs.BodyOps.{BodyOp, ids_in}
use Rattle.ir_store.specs.Numbered.{position_of, ref_by, op_by, ops_by_position}
use Rattle.aiger_text.specs.Seen.{numbers_from}

-- ---- one more operation

numbers_push : (n first : ℕ) → numbers_from first n ++ (first + n) ∷ [] ≡ numbers_from first (suc n)
numbers_push zero first = let e : first + 0 ≡ first = omega arith in rw e refl
numbers_push (suc n) first = let e : first + suc n ≡ suc first + n = omega arith in rw e (ap (λ ns. first ∷ ns) (numbers_push n (suc first)))

count_from : (n first : ℕ) → length (numbers_from first n) ≡ n
count_from zero first = refl
count_from (suc n) first = ap suc (count_from n (suc first))

pub numbered_more : (done new : List BodyOp) (op : BodyOp) → new ≡ done ++ op ∷ [] → ids_in done ≡ numbers_from 0 (length (ids_in done)) → op.id ≡ length (ids_in done)
    → ids_in new ≡ numbers_from 0 (length (ids_in new))
numbered_more done new op is ids next =
    let n = length (ids_in done) in
    let at : 0 + n ≡ n = omega arith in
    let all : ids_in new ≡ numbers_from 0 (suc n) =
    ap ids_in is ∙ map-append (λ (o : BodyOp). o.id) done (op ∷ []) ∙ ap (λ xs. xs ++ op.id ∷ []) ids ∙ ap (λ i. numbers_from 0 n ++ i ∷ []) (next ∙ sym at) ∙ numbers_push n 0 in
    all ∙ ap (numbers_from 0) (sym (ap length all ∙ count_from (suc n) 0))

-- there are as many ids as operations
pub ids_count : (ops : List BodyOp) → length (ids_in ops) ≡ length (map (op_by (λ i. i)) ops)
ids_count ops = length-map ops (λ (o : BodyOp). o.id) ∙ sym (length-map ops (op_by (λ i. i)))

-- ---- operations by positions

position_from : (n first i : ℕ) → i < n → position_of (numbers_from first n) (first + i) ≡ i
position_from zero first i low = absurd (omega (arith, low))
position_from (suc n) first i low = go (nat_eq first (first + i)) refl i low refl (position_from n (suc first))
  where
    go : (b : Bool) → nat_eq first (first + i) ≡ b → (j : ℕ) → j < suc n → i ≡ j → ((k : ℕ) → k < n → position_of (numbers_from (suc first) n) (suc first + k) ≡ k)
        → cond b 0 (suc (position_of (numbers_from (suc first) n) (first + i))) ≡ i
    go true is j below same rest = let e : first ≡ first + i = eqb-true first (first + i) is in omega (arith, e)
    go false is zero below same rest = let e : first ≡ first + i = omega (arith, same) in absurd (eqb-false first (first + i) is e)
    go false is (suc j) below same rest =
        let at : first + i ≡ suc first + j = omega (arith, same) in
        ap suc (ap (position_of (numbers_from (suc first) n)) at ∙ rest j (omega (arith, below))) ∙ sym same

position_at : (n i : ℕ) → i < n → position_of (numbers_from 0 n) i ≡ i
position_at n i low = let at : i ≡ 0 + i = omega arith in ap (position_of (numbers_from 0 n)) at ∙ position_from n 0 i low

-- a value is none of an operation above
abbrev pub IsBelow : ℕ → Ref → Type 0
IsBelow n r = (i k : ℕ) → r ≡ result i k → i < n

value_placed : (n : ℕ) (v : Value) → IsBelow n (ref_by (λ i. i) v) → ref_by (position_of (numbers_from 0 n)) v ≡ ref_by (λ i. i) v
value_placed n (Port p) below = refl
value_placed n (Result id k) below = ap (λ i. result i k) (position_at n id.index (below id.index k refl))
value_placed n Undefined below = refl

op_placed : (n : ℕ) (o : BodyOp) → ((r : Ref) → In r (map (ref_by (λ i. i)) o.operands) → IsBelow n r) → op_by (position_of (numbers_from 0 n)) o ≡ op_by (λ i. i) o
op_placed n o below = ap (λ rs. record (op_by (λ i. i) o) { operands = rs }) (map_same (ref_by (position_of (numbers_from 0 n))) (ref_by (λ i. i)) o.operands
    (λ v here. value_placed n v (below (ref_by (λ i. i) v) (In-map (ref_by (λ i. i)) v o.operands here))))

ops_placed : (n : ℕ) (ops : List BodyOp) → ((o : Op) → In o (map (op_by (λ i. i)) ops) → (r : Ref) → In r o.operands → IsBelow n r)
    → map (op_by (position_of (numbers_from 0 n))) ops ≡ map (op_by (λ i. i)) ops
ops_placed n [] below = refl
ops_placed n (o ∷ ops) below = ap₂ (λ p ps. p ∷ ps) (op_placed n o (below (op_by (λ i. i) o) (inl refl))) (ops_placed n ops (λ p here. below p (inr here)))

-- where ids are positions and values are of operations that are there, operations by ids are those by positions
pub placed : (ops : List BodyOp) (os : List Op) → ids_in ops ≡ numbers_from 0 (length (ids_in ops)) → map (op_by (λ i. i)) ops ≡ os
    → ((o : Op) → In o os → (r : Ref) → In r o.operands → IsBelow (length os) r) → ops_by_position ops ≡ os
placed ops os ids are below =
    let count : length (ids_in ops) ≡ length os = ids_count ops ∙ ap length are in
    ap (λ is. map (op_by (position_of is)) ops) (ids ∙ ap (numbers_from 0) count)
    ∙ ops_placed (length os) ops (λ o here. below o (subst (In o) are here)) ∙ are
