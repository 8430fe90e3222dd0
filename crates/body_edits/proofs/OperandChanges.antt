-- An operation whose operands change.
use Rattle.std.proofs.Common.{◌≡◌, ℕ, zero, suc, List, [], ◌∷◌, set, Some, slice_get, ap}
use Rattle.hw_model.specs.Design.{Op, Ref}
use Rattle.ir_store.specs.Positions.{with_operands}

-- the operation at a position alone has changed
pub with_operands_set : (i : ℕ) (f : List Ref → List Ref) (os : List Op) (o : Op) → slice_get os i ≡ Some o → with_operands i f os ≡ set os i (record o { operands = f o.operands })
with_operands_set i f [] o is = cc
with_operands_set zero f (p ∷ os) o is = let same : p ≡ o = cc in ap (λ (x : Op). record x { operands = f x.operands } ∷ os) same
with_operands_set (suc i) f (p ∷ os) o is = ap (λ xs. p ∷ xs) (with_operands_set i f os o is)
