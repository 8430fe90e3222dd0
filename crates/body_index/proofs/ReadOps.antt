-- What is read of a body by positions.
use Rattle.std.proofs.Common.{◌≡◌, ℕ, zero, suc, ◌<◌, ◌≤◌, Bool, true, false, cond, nat_eq, List, [], ◌∷◌, length, map, get_or, slice_get, Some, option_map, refl, sym, ap, subst, ◌∙◌, arith, eq-eqb}
use Rattle.std.specs.Prelude.{Contains}
use Rattle.std.proofs.lemmas.Bool.{eqb-true, eqb-false}
use Rattle.std.proofs.lemmas.Option.{slice_get-map, get_or_from_slice_get}
use Rattle.std.proofs.lemmas.List.{length-map}
use Rattle.wiring.proofs.Lists.{slice_get_some}
use Rattle.ir_store.specs.declared.body.Body.{Body}
use Rattle.ir_store.specs.declared.body.Op.{Op}
use Rattle.ir_store.specs.declared.operation.OpId.{OpId}
use Rattle.linked_lists.specs.Ids.{times}
use Rattle.ir_store.specs.BodyOps.{BodyOp, ids_in, op_at}
use Rattle.ir_store.specs.Bodies.{ids_of, ops_of, op_id, read_op}
use Rattle.ir_store.specs.Numbered.{position_of, op_by, ops_by_position}
use Rattle.ir_store.proofs.BodyLemmas.{ids_once}
use Rattle.linked_lists.proofs.IdLemmas.{contained_times}
use Rattle.body_index.proofs.PositionTables.{index_at, ids_same, position_found}

-- ---- the operation of an id that stands once

contains_rest : (i v : ℕ) (ids : List ℕ) (k : ℕ) → slice_get ids k ≡ Some v → times v (i ∷ ids) ≤ 1 → i ≡ v → ⊥
contains_rest i v ids k at once same =
    let there : 0 < times v ids = contained_times ids v (contained ids k at) in
    let more : times v (i ∷ ids) ≡ suc (times v ids) = counted (nat_eq i v) refl in
    absurd (omega arith)
  where
    contained : (xs : List ℕ) (k : ℕ) → slice_get xs k ≡ Some v → Contains xs v
    contained [] k at = cc
    contained (x ∷ xs) zero at = let e : x ≡ v = cc in (0, omega arith, e)
    contained (x ∷ xs) (suc k) at = let rest = contained xs k at in (suc rest.0, omega (arith, rest.1), rest.2)

    counted : (b : Bool) → nat_eq i v ≡ b → cond b (suc (times v ids)) (times v ids) ≡ suc (times v ids)
    counted true is = refl
    counted false is = absurd (eqb-false i v is same)

once_after : (i v : ℕ) (ids : List ℕ) → times v (i ∷ ids) ≤ 1 → times v ids ≤ 1
once_after i v ids once = go (nat_eq i v) once
  where
    go : (b : Bool) → cond b (suc (times v ids)) (times v ids) ≤ 1 → times v ids ≤ 1
    go true h = omega arith
    go false h = h

pub op_once : (ops : List BodyOp) (j : ℕ) (o : BodyOp) → slice_get ops j ≡ Some o → times o.id (ids_in ops) ≤ 1 → op_at ops o.id ≡ Some o
op_once [] j o at once = cc
op_once (p ∷ ops) zero o at once =
    let same : p ≡ o = cc in
    let test : nat_eq p.id o.id ≡ true = ap (λ (x : BodyOp). nat_eq x.id o.id) same ∙ same_number o.id in
    ap (λ b. cond b (Some p) (op_at ops o.id)) test ∙ ap Some same
  where
    same_number : (n : ℕ) → nat_eq n n ≡ true
    same_number n = eq-eqb n n refl
op_once (p ∷ ops) (suc j) o at once = go (nat_eq p.id o.id) refl (op_once ops j o at (once_after p.id o.id (ids_in ops) once))
  where
    id_at : slice_get (ids_in ops) j ≡ Some o.id
    id_at = slice_get-map (λ (x : BodyOp). x.id) ops j ∙ ap (option_map (λ (x : BodyOp). x.id)) at

    go : (b : Bool) → nat_eq p.id o.id ≡ b → op_at ops o.id ≡ Some o → cond b (Some p) (op_at ops o.id) ≡ Some o
    go true is rest = absurd (contains_rest p.id o.id (ids_in ops) j id_at once (eqb-true p.id o.id is))
    go false is rest = rest

-- ---- by position

module _ (b : Body) (ids : List OpId) (all : ids ≡ map op_id (ids_of b)) (j : ℕ) (within : j < length ids) where
  at_j : OpId
  at_j = get_or ids j (op_id 0)

  id_is : get_or ids j (op_id 0) ≡ op_id (get_or (ids_of b) j 0)
  id_is = ap (λ xs. get_or xs j (op_id 0)) all ∙ get_or-map (ids_of b) j
    where
      get_or-map : (xs : List ℕ) (k : ℕ) → get_or (map op_id xs) k (op_id 0) ≡ op_id (get_or xs k 0)
      get_or-map [] k = refl
      get_or-map (x ∷ xs) zero = refl
      get_or-map (x ∷ xs) (suc k) = get_or-map xs k

  count : length ids ≡ length (ids_of b)
  count = ap length all ∙ length-map (ids_of b) op_id

  pub id_contained : (k : ℕ) × (k < length (ids_of b)) × (get_or (ids_of b) k (get_or ids j (op_id 0)).index ≡ (get_or ids j (op_id 0)).index)
  id_contained =
      let below : j < length (ids_of b) = subst (λ n. j < n) count within in
      let index : (get_or ids j (op_id 0)).index ≡ get_or (ids_of b) j 0 = ap (λ (i : OpId). i.index) id_is in
      (j, below, any_default (ids_of b) j (get_or ids j (op_id 0)).index 0 below ∙ sym index)
    where
      any_default : (xs : List ℕ) (k d e : ℕ) → k < length xs → get_or xs k d ≡ get_or xs k e
      any_default [] k d e below = absurd (omega arith)
      any_default (x ∷ xs) zero d e below = refl
      any_default (x ∷ xs) (suc k) d e below = any_default xs k d e (omega arith)

  pub op_is : (o : Op) → op_at (ops_of b) (get_or ids j (op_id 0)).index ≡ Some (read_op (get_or ids j (op_id 0)) o) → slice_get (ops_by_position (ops_of b)) j ≡ Some (op_by (position_of (ids_of b)) (read_op (op_id 0) o))
  op_is o found =
      let below : j < length (ops_of b) = subst (λ n. j < n) (count ∙ length-map (ops_of b) (λ (x : BodyOp). x.id)) within in
      let there = slice_get_some (ops_of b) j below in
      let its_id : slice_get (ids_of b) j ≡ Some there.0.id = slice_get-map (λ (x : BodyOp). x.id) (ops_of b) j ∙ ap (option_map (λ (x : BodyOp). x.id)) there.1 in
      let index : (get_or ids j (op_id 0)).index ≡ there.0.id = ap (λ (i : OpId). i.index) id_is ∙ get_or_from_slice_get (ids_of b) j there.0.id 0 its_id in
      let once : op_at (ops_of b) there.0.id ≡ Some there.0 = op_once (ops_of b) j there.0 there.1 (ids_once b there.0.id) in
      let same : Some there.0 ≡ Some (read_op (get_or ids j (op_id 0)) o) = sym once ∙ ap (op_at (ops_of b)) (sym index) ∙ found in
      slice_get-map (op_by (position_of (ids_of b))) (ops_of b) j ∙ ap (option_map (op_by (position_of (ids_of b)))) (there.1 ∙ same)

  pub position_at : (d : OpId) → position_of (ids_of b) (get_or ids j d).index ≡ j
  position_at d =
      let same = ids_same ids (ids_of b) all in
      let there : slice_get (ids_of b) j ≡ Some (get_or ids j d).index = sym (ap (λ (l : List ℕ). slice_get l j) same) ∙ index_at ids j d within in
      position_found (ids_of b) (get_or ids j d).index j (ids_once b (get_or ids j d).index) there

-- as many ids as operations
pub ids_numbered : (b : Body) (ids : List OpId) → ids ≡ map op_id (ids_of b) → length ids ≡ length (ops_by_position (ops_of b))
ids_numbered b ids all =
    ap length all ∙ length-map (ids_of b) op_id ∙ length-map (ops_of b) (λ (o : BodyOp). o.id) ∙ sym (length-map (ops_of b) (op_by (position_of (ids_of b))))
