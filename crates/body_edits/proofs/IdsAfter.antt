-- Ids of the operations of a body after edits.
use Rattle.std.proofs.Common.{◌≡◌, ℕ, zero, suc, ◌+◌, ◌<◌, Bool, true, false, cond, nat_eq, List, [], ◌∷◌, refl, ap, ◌∙◌, arith}
use Rattle.std.specs.Prelude.{Contains, remove}
use Rattle.ir_store.specs.declared.body.Body.{Body}
use Rattle.ir_store.specs.declared.operation.OpId.{OpId}
use Rattle.ir_store.specs.declared.operation.Value.{Value}
use Rattle.ir_store.specs.declared.operation.Value.TheVariants.{Result}
use Rattle.ir_store.specs.Bodies.{ids_of, ops_of}
use Rattle.ir_store.specs.BodyOps.{BodyOp, ids_in, taken_out, all_replaced}
use Rattle.ir_store.specs.Numbered.{position_of}
use Rattle.ir_store.proofs.Living.{ids-all_replaced}
use Rattle.body_edits.specs.Views.{position_in}

-- those left once an operation is taken out
pub ids_left : (id : ℕ) (ops : List BodyOp) → ids_in (taken_out id ops) ≡ remove (ids_in ops) (position_of (ids_in ops) id)
ids_left id [] = refl
ids_left id (o ∷ ops) = go (nat_eq o.id id) (ids_left id ops)
  where
    go : (b : Bool) → ids_in (taken_out id ops) ≡ remove (ids_in ops) (position_of (ids_in ops) id)
        → ids_in (cond b ops (o ∷ taken_out id ops)) ≡ remove (o.id ∷ ids_in ops) (cond b 0 (suc (position_of (ids_in ops) id)))
    go true e = refl
    go false e = ap (λ js. o.id ∷ js) e

-- once a value stands for the result of an operation, which is taken out
pub ids_stood_in : (op : OpId) (x : Value) (b b' b'' : Body) → ops_of b' ≡ all_replaced (Result op 0) x (ops_of b) → ops_of b'' ≡ taken_out op.index (ops_of b')
    → ids_of b'' ≡ remove (ids_of b) (position_in b op)
unfolding position_in
ids_stood_in op x b b' b'' replaced taken =
    ap ids_in taken ∙ ids_left op.index (ops_of b') ∙ ap (λ ids. remove ids (position_of ids op.index)) (ap ids_in replaced ∙ ids-all_replaced (Result op 0) x (ops_of b))

-- ---- an id that no operation has

below : (ids : List ℕ) → (n : ℕ) × ((k : ℕ) → Contains ids k → k < n)
below [] = (0, λ k c. absurd (omega (arith, c.1)))
below (i ∷ ids) = (suc (i + (below ids).0), λ k c. go (below ids).0 (below ids).1 k c)
  where
    go : (n : ℕ) → ((k : ℕ) → Contains ids k → k < n) → (k : ℕ) → Contains (i ∷ ids) k → k < suc (i + n)
    go n under k (zero, l, e) = omega (arith, e)
    go n under k (suc j, l, e) = let h = under k (j, omega (arith, l), e) in omega (arith, h)

pub unlisted : (ids : List ℕ) → (n : ℕ) × (Contains ids n → ⊥)
unlisted ids = let bound = below ids in (bound.0, λ c. let h = bound.1 bound.0 c in omega (arith, h))
