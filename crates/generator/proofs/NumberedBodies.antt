-- Bodies in which ids are positions: how they grow, and their operations by positions.
use Rattle.std.proofs.Common.{◌≡◌, ℕ, zero, suc, ◌+◌, ◌<◌, ◌≤◌, ◌^◌, List, [], ◌∷◌, ◌++◌, map, length, refl, sym, ap, ◌∙◌, arith, append_assoc}
use Rattle.std.proofs.lemmas.List.{map-append, length-append, length-map, append-nil}
use Rattle.hw_model.specs.Design.{Op, Ref}
use Rattle.hw_model.specs.Design.Ref.{port, result, undefined}
use Rattle.ir_store.specs.declared.operation.OpId.{OpId}
use Rattle.ir_store.specs.declared.operation.NewOp.{NewOp}
use Rattle.ir_store.specs.declared.operation.Value.{Value}
use Rattle.ir_store.specs.declared.operation.Value.TheVariants.{Port, Result, Undefined}
use Rattle.ir_store.specs.BodyOps.{BodyOp, ids_in, as_new}
use Rattle.ir_store.specs.Numbered.{position_of, ref_by, op_by, ops_by_position}
use Rattle.generator.specs.Generated.{first_ops, last_ops}
use Rattle.generator.specs.Views.{op_seen, numbers_from}

-- ---- one more operation

numbers_push : (n first : ℕ) → numbers_from first n ++ (first + n) ∷ [] ≡ numbers_from first (suc n)
numbers_push zero first = let e : first + 0 ≡ first = omega arith in rw e refl
numbers_push (suc n) first = let e : first + suc n ≡ first + 1 + n = omega arith in rw e (ap (λ ns. first ∷ ns) (numbers_push n (first + 1)))

count_from : (n first : ℕ) → length (numbers_from first n) ≡ n
count_from zero first = refl
count_from (suc n) first = ap suc (count_from n (first + 1))

pub numbered_more : (done new : List BodyOp) (op : BodyOp) → new ≡ done ++ op ∷ [] → ids_in done ≡ numbers_from 0 (length (ids_in done)) → op.id ≡ length (ids_in done)
    → ids_in new ≡ numbers_from 0 (length (ids_in new))
numbered_more done new op is ids next =
    let n = length (ids_in done) in
    let at : 0 + n ≡ n = omega arith in
    let all : ids_in new ≡ numbers_from 0 (suc n) =
    ap ids_in is ∙ map-append (λ (o : BodyOp). o.id) done (op ∷ []) ∙ ap (λ xs. xs ++ op.id ∷ []) ids ∙ ap (λ i. numbers_from 0 n ++ i ∷ []) (next ∙ sym at) ∙ numbers_push n 0 in
    all ∙ ap (numbers_from 0) (sym (ap length all ∙ count_from (suc n) 0))

-- what is put in, and what is left, are all
pub ops_more : (done new : List BodyOp) (id : OpId) (op : NewOp) (rest next : List NewOp) (all : List Op) → new ≡ done ++ as_new id op ∷ [] → rest ≡ op ∷ next
    → map (op_by (λ i. i)) done ++ map op_seen rest ≡ all → map (op_by (λ i. i)) new ++ map op_seen next ≡ all
ops_more done new id op rest next all is left before =
    ap (λ xs. map (op_by (λ i. i)) xs ++ map op_seen next) is
    ∙ ap (λ xs. xs ++ map op_seen next) (map-append (op_by (λ i. i)) done (as_new id op ∷ []))
    ∙ append_assoc (map (op_by (λ i. i)) done) (op_seen op ∷ []) (map op_seen next)
    ∙ ap (λ xs. map (op_by (λ i. i)) done ++ map op_seen xs) (sym left) ∙ before

pub ops_all : (done : List BodyOp) (rest : List NewOp) (all : List Op) → rest ≡ [] → map (op_by (λ i. i)) done ++ map op_seen rest ≡ all → map (op_by (λ i. i)) done ≡ all
ops_all done rest all none before =
    sym (append-nil (map (op_by (λ i. i)) done)) ∙ ap (λ xs. map (op_by (λ i. i)) done ++ map op_seen xs) (sym none) ∙ before

-- so there is room for one more
pub room_left : (done : List BodyOp) (rest all : List NewOp) → map (op_by (λ i. i)) done ++ map op_seen rest ≡ map op_seen all → length all ≤ 2 ^ 16
    → length (ids_in done) + 1 < 2 ^ 32
room_left done rest all before few =
    let ids : length (ids_in done) ≡ length done = length-map done (λ (o : BodyOp). o.id) in
    let seen : length (map (op_by (λ i. i)) done) ≡ length done = length-map done (op_by (λ i. i)) in
    let whole : length (map op_seen all) ≡ length all = length-map all op_seen in
    let joined : length (map (op_by (λ i. i)) done ++ map op_seen rest) ≡ length (map (op_by (λ i. i)) done) + length (map op_seen rest) =
    length-append (map (op_by (λ i. i)) done) (map op_seen rest) in
    let same : length (map (op_by (λ i. i)) done ++ map op_seen rest) ≡ length (map op_seen all) = ap length before in
    omega (arith, ids, seen, whole, joined, same, few)

-- ---- operations by positions

abbrev moved : (ℕ → ℕ) → Ref → Ref
moved position (port j) = port j
moved position (result i k) = result (position i) k
moved position undefined = undefined

abbrev renumbered : (ℕ → ℕ) → Op → Op
renumbered position o = record o { operands = map (moved position) o.operands }

refs_moved : (position : ℕ → ℕ) (vs : List Value) → map (ref_by position) vs ≡ map (moved position) (map (ref_by (λ i. i)) vs)
refs_moved position [] = refl
refs_moved position (Port n ∷ vs) = ap (λ rs. port n ∷ rs) (refs_moved position vs)
refs_moved position (Result id k ∷ vs) = ap (λ rs. result (position id.index) k ∷ rs) (refs_moved position vs)
refs_moved position (Undefined ∷ vs) = ap (λ rs. undefined ∷ rs) (refs_moved position vs)

ops_moved : (position : ℕ → ℕ) (os : List BodyOp) → map (op_by position) os ≡ map (renumbered position) (map (op_by (λ i. i)) os)
ops_moved position [] = refl
ops_moved position (o ∷ os) =
    rw (refs_moved position o.operands) (ap (λ rest. renumbered position (op_by (λ i. i) o) ∷ rest) (ops_moved position os))

-- where ids are positions, operations by ids are those by positions
placed : (ops : List BodyOp) (os : List Op) → ids_in ops ≡ numbers_from 0 (length (ids_in ops)) → map (op_by (λ i. i)) ops ≡ os
    → map (renumbered (position_of (numbers_from 0 (length os)))) os ≡ os → ops_by_position ops ≡ os
placed ops os ids are stay =
    let count : length (ids_in ops) ≡ length os = length-map ops (λ (o : BodyOp). o.id) ∙ sym (length-map ops (op_by (λ i. i))) ∙ ap length are in
    ap (λ is. map (op_by (position_of is)) ops) (ids ∙ ap (numbers_from 0) count)
    ∙ ops_moved (position_of (numbers_from 0 (length os))) ops ∙ ap (map (renumbered (position_of (numbers_from 0 (length os))))) are ∙ stay

pub placed_ops : (ops : List BodyOp) (x k : ℕ) → ids_in ops ≡ numbers_from 0 (length (ids_in ops)) → map (op_by (λ i. i)) ops ≡ first_ops x ++ last_ops k
    → ops_by_position ops ≡ first_ops x ++ last_ops k
placed_ops ops x k ids are = placed ops (first_ops x ++ last_ops k) ids are (stay k)
  where
    stay : (k : ℕ) → map (renumbered (position_of (numbers_from 0 (length (first_ops x ++ last_ops k))))) (first_ops x ++ last_ops k) ≡ first_ops x ++ last_ops k
    stay zero = refl
    stay (suc k) = refl
