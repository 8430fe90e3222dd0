-- An operation that is put before another one: where values are then, and the ids.
use Rattle.std.proofs.Common.{◌≡◌, ℕ, zero, suc, Bool, true, false, cond, nat_eq, List, [], ◌∷◌, Some, refl, ap, ap₂}
use Rattle.std.specs.Prelude.{insert}
use Rattle.wiring.proofs.Members.{map_same}
use Rattle.hw_model.specs.Design.{Ref, Op}
use Rattle.hw_model.specs.Design.Ref.{port, result, undefined}
use Rattle.edit_laws.specs.Laws.{up, up_ref, insert_op}
use Rattle.ir_store.specs.declared.operation.OpId.{OpId}
use Rattle.ir_store.specs.BodyOps.{BodyOp, ids_in, put_before}
use Rattle.ir_store.specs.Numbered.{position_of}
use Rattle.ir_store.specs.Positions.{retarget, position_after_insert, pushed_ref, with_op}

-- the two definitions of where a value is then are one
up_insert : (i j : ℕ) → position_after_insert i j ≡ up i j
up_insert zero j = refl
up_insert (suc i) zero = refl
up_insert (suc i) (suc j) = ap suc (up_insert i j)

up_pushed : (i : ℕ) (r : Ref) → pushed_ref i r ≡ up_ref i r
up_pushed i (port n) = refl
up_pushed i (result j k) = ap (λ p. result p k) (up_insert i j)
up_pushed i undefined = refl

retarget_same : (i : ℕ) (o : Op) → retarget (pushed_ref i) o ≡ retarget (up_ref i) o
retarget_same i o = ap (λ rs. record o { operands = rs }) (map_same (pushed_ref i) (up_ref i) o.operands (λ r here. up_pushed i r))

-- and so are the two of a body with one more operation
pub put_in_same : (i : ℕ) (o : Op) (os : List Op) → with_op i o os ≡ insert_op i o os
put_in_same i o os = ap₂ (λ ps p. insert ps i p) (map_same (retarget (pushed_ref i)) (retarget (up_ref i)) os (λ p here. retarget_same i p)) (retarget_same i o)

-- the ids then
pub ids_put : (b : OpId) (o : BodyOp) (ops : List BodyOp) → ids_in (put_before (Some b) o ops) ≡ insert (ids_in ops) (position_of (ids_in ops) b.index) o.id
ids_put b o [] = refl
ids_put b o (p ∷ ops) = go (nat_eq p.id b.index) (ids_put b o ops)
  where
    go : (t : Bool) → ids_in (put_before (Some b) o ops) ≡ insert (ids_in ops) (position_of (ids_in ops) b.index) o.id
        → ids_in (cond t (o ∷ p ∷ ops) (p ∷ put_before (Some b) o ops)) ≡ insert (p.id ∷ ids_in ops) (cond t 0 (suc (position_of (ids_in ops) b.index))) o.id
    go true rest = refl
    go false rest = ap (λ ids. p.id ∷ ids) rest
